use Rattle.std.proofs.Common.{◌-◌, ◌*◌}
use Rattle.parallel_text.proofs.text.+fn-printed-mine+fn-printed-theirs+printed.Given as goal

abbrev pub decreases-printed : goal.decreases-printed
decreases-printed g l = 2 * l.depth

abbrev pub decreases-mine : goal.decreases-mine
decreases-mine g l = 2 * l.depth - 1

abbrev pub decreases-theirs : goal.decreases-theirs
decreases-theirs g l = 2 * l.depth - 1
