use Rattle.std.proofs.Common.{◌*◌, ◌-◌}
use Rattle.clip_gate_trials.proofs.threads.+beside+fn-beside-mine.Given as goal

abbrev pub decreases-beside : goal.decreases-beside
decreases-beside g l = 2 * l.more

abbrev pub decreases-mine : goal.decreases-mine
decreases-mine g l = 2 * l.more - 1
