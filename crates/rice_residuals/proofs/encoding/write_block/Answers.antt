use Rattle.std.proofs.Common.{List, Bool, ℕ, ◌++◌, ◌∙◌, ap, ap₂}
use Rattle.rice_residuals.specs.Bits.{low_bits}
use Rattle.rice_residuals.specs.Word.{canonical_word}
use Rattle.rice_residuals.proofs.CodeWrite.{word_packed}
use Rattle.rice_residuals.proofs.encoding.write_block.Goals as goal

pub returns : goal.returns
returns c =
    let first = c.in_ok-push.ensures.ok ∙ ap₂ (λ (x : List Bool) (n : ℕ). x ++ low_bits 4 n) c.new-writer.ensures c.from.ensures in
    word_packed c.used-used.result.now c.parameter_of-parameter.result c.push.new.self c.write_codes.new.writer c.finish.result.items c.parameter_of-parameter.ensures.best first c.in_ok-write_codes.ensures c.finish.ensures
    ∙ ap canonical_word c.used-used.ensures.list
