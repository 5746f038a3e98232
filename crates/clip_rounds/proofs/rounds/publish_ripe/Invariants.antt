use Rattle.run_actions.specs.Runs.{leaves_nothing}
use Rattle.clip_rounds.proofs.RoundSteps.{IsPublishing}
use Rattle.clip_rounds.proofs.rounds.publish_ripe.Given as goal

abbrev pub invariant-loop-level : goal.invariant-loop-level
invariant-loop-level g l =
    IsPublishing (Unit {0}) leaves_nothing l.initial.flight l.flight l.level (g.K.Sink.told l.initial.out) (g.K.Sink.told l.out)
