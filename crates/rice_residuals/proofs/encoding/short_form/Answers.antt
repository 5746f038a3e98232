use Rattle.std.proofs.Common.{ℕ, ◌+◌, ◌*◌, ◌^◌, ◌∙◌, ap, arith}
use Rattle.rice_residuals.proofs.CodeWrite.{joined_exact, joined_below, joined_fits}
use Rattle.rice_residuals.proofs.encoding.short_form.Goals as goal

pub overflow_add-result : goal.overflow_add-result
overflow_add-result c =
    let run = c.run_of_ones in
    let e = joined_exact c.args.ones c.args.parameter run.result c.requires.short run.ensures.below in
    let h = joined_fits c.args.ones c.args.parameter run.result c.args.low c.requires.short run.ensures.below c.requires.low in
    omega arith

pub returns-clause-value : goal.returns-clause-value
returns-clause-value c =
    let run = c.run_of_ones in
    ap (λ (m : ℕ). m + c.args.low) (joined_exact c.args.ones c.args.parameter run.result c.requires.short run.ensures.below)
    ∙ ap (λ (m : ℕ). m * 2 ^ c.args.parameter + c.args.low) run.ensures.value

pub returns-clause-below : goal.returns-clause-below
returns-clause-below c =
    let run = c.run_of_ones in
    let e = joined_exact c.args.ones c.args.parameter run.result c.requires.short run.ensures.below in
    let h = joined_below c.args.ones c.args.parameter run.result c.args.low run.ensures.below c.requires.low in
    omega arith
