use Rattle.plan_plain.specs.SoundRuns.{IsSoundRun}
use Rattle.run_trials.proofs.plain.play.Given as goal

abbrev pub invariant-loop-step : goal.invariant-loop-step
invariant-loop-step g l = IsSoundRun l.book.run
