use Rattle.std.specs.Prelude.{Vec}
use Rattle.std.specs.Global.{Global}
use Rattle.decode_rounds.specs.declared.tasks.Task.{Task}
use Rattle.run_actions.specs.Runs.{leaves_nothing}
use Rattle.clip_rounds.proofs.RoundSteps.{IsClaiming}
use Rattle.clip_rounds.proofs.rounds.claim_jobs.Given as goal

abbrev pub invariant-loop-pass : goal.invariant-loop-pass
invariant-loop-pass g l =
    IsClaiming (Vec Task Global) leaves_nothing l.fn.flight l.flight l.workers l.pass l.tasks.items (g.K.Sink.told l.fn.out) (g.K.Sink.told l.out)
