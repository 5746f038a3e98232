use Rattle.clip_runs.proofs.Steps.{IsOn}
use Rattle.clip_runs.proofs.play.take_steps.Given as goal

abbrev pub invariant-loop-step : goal.invariant-loop-step
invariant-loop-step g l =
    IsOn g.S.Shelf.leaves l.means.name.now l.steps l.fn.stage l.stage l.step-index (g.S.Shelf.told l.fn.shelf) (g.S.Shelf.told l.shelf) (g.K.Sink.told l.fn.out) (g.K.Sink.told l.out)
