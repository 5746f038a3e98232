use Rattle.std.proofs.Common.{◌≡◌, ℤ, ap, ◌∙◌, arith}
use Rattle.std.proofs.lemmas.Int.{ints}
use Rattle.clip_regions.specs.FloorDivision.{floor_div}
use Rattle.plan_plain_pieces.proofs.strip_pieces.need_from.Goals as goal
use Rattle.clip_regions.proofs.Numbers.{read_back}

pub returns-clause-value : goal.returns-clause-value
returns-clause-value c =
    let quotient : c.floor_div.result ≡ floor_div c.args.cell 2 = c.floor_div.ensures.value ∙ ap (λ (v : ℤ). floor_div v 2) (read_back c.args.cell c.ranges.cell) in
    omega (arith, ints, quotient)
