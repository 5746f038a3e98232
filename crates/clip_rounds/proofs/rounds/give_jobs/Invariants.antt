use Rattle.std.specs.Vec.Iter.{into_iter_items}
use Rattle.run_actions.specs.Runs.{leaves_nothing}
use Rattle.clip_rounds.proofs.RoundSteps.{IsGiving}
use Rattle.clip_rounds.proofs.rounds.give_jobs.Given as goal

abbrev pub invariant-loop-done : goal.invariant-loop-done
invariant-loop-done g l =
    IsGiving (Unit {0}) leaves_nothing l.fn.flight l.flight l.pass (into_iter_items l.done-iterator) (g.K.Sink.told l.fn.out) (g.K.Sink.told l.out)
