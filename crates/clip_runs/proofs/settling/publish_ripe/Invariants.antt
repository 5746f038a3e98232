use Rattle.clip_runs.proofs.Settles.{IsDown}
use Rattle.clip_runs.proofs.settling.publish_ripe.Given as goal

abbrev pub invariant-loop-level : goal.invariant-loop-level
invariant-loop-level g l = IsDown l.initial.desk l.desk l.level
