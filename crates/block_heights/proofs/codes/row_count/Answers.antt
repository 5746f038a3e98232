use Rattle.std.proofs.Common.{◌+◌, ◌/◌, ◌∙◌, ℕ, Bool, cond, sym}
use mathlib.Core.Path.{ap₂}
use Rattle.block_heights.proofs.CodedRows.{count_by_two}
use Rattle.block_heights.proofs.codes.row_count.Goals as goal

pub returns-clause-count : goal.returns-clause-count
returns-clause-count c =
    let w = c.args.width in
    ap₂ (λ (m n : ℕ). m + n) c.counted-firsts.ensures.value c.counted-seconds.ensures.value
    ∙ ap₂ (λ (s t : Bool). cond s ((w + 1) / 2) 0 + cond t (w / 2) 0) c.is_coded_in.ensures c.is_coded_in-2.ensures
    ∙ sym (count_by_two c.args.region c.args.b w)
