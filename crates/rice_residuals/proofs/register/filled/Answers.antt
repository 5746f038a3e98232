use Rattle.std.proofs.Common.{◌≡◌, ℕ, ◌*◌, List, take, drop, arith, ap, ◌∙◌}
use Rattle.std.proofs.lemmas.List.{take_rest}
use Rattle.rice_residuals.specs.Bits.{low_bits, bits_of_bytes}
use Rattle.rice_residuals.proofs.Registers.{reading_filled}
use Rattle.rice_residuals.proofs.register.filled.Goals as goal

pub returns-clause-same : goal.returns-clause-same
returns-clause-same c =
    let bytes = c.args.bytes.now in
    let run = c.front_run-run in
    let same : low_bits (8 * run.result.bytes) run.result.bits ≡ bits_of_bytes (take run.result.bytes (drop c.args.register.next bytes)) =
    run.ensures.bits ∙ ap (λ (x : List ℕ). bits_of_bytes (take run.result.bytes x)) (take_rest bytes c.args.register.next) in
    reading_filled bytes c.args.register run.result.bytes run.result.bits c.from.result c.from.ensures same run.ensures.below (omega arith) (omega arith)
