use Rattle.std.proofs.Common.{◌≡◌, ◌<◌, arith, subst, sym}
use Rattle.rice_residuals.proofs.OnesRun.{HasRun, has_run}
use Rattle.rice_residuals.proofs.reader.ones_of.Goals as goal

pub returns-clause-held : goal.returns-clause-held
returns-clause-held c =
    let some : 0 < c.args.held = omega arith in
    let run : HasRun c.args.bits c.args.held c.leading_ones.result = subst (HasRun c.args.bits c.args.held) (sym c.leading_ones.ensures) (has_run c.args.bits c.args.held some c.requires) in
    let within = run.within in
    omega arith

pub returns-clause-run : goal.returns-clause-run
returns-clause-run c =
    let some : 0 < c.args.held = omega arith in
    let run : HasRun c.args.bits c.args.held c.leading_ones.result = subst (HasRun c.args.bits c.args.held) (sym c.leading_ones.ensures) (has_run c.args.bits c.args.held some c.requires) in
    run.run c.min.result (omega arith)

pub returns-clause-zero : goal.returns-clause-zero
returns-clause-zero c = λ few inside.
    let some : 0 < c.args.held = omega arith in
    let same : c.leading_ones.result ≡ c.min.result = omega arith in
    let run : HasRun c.args.bits c.args.held c.leading_ones.result = subst (HasRun c.args.bits c.args.held) (sym c.leading_ones.ensures) (has_run c.args.bits c.args.held some c.requires) in
    let moved : HasRun c.args.bits c.args.held c.min.result = subst (HasRun c.args.bits c.args.held) same run in
    moved.zero inside
