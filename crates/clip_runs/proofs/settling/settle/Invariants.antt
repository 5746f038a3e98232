use Rattle.clip_runs.proofs.Settles.{IsSettling, to_do}
use Rattle.clip_runs.proofs.settling.settle.Given as goal

abbrev pub invariant-loop-filling : goal.invariant-loop-filling
invariant-loop-filling g l = IsSettling l.initial.desk l.desk l.filling

abbrev pub decreases-loop-filling : goal.decreases-loop-filling
decreases-loop-filling g l = to_do l.desk l.filling
