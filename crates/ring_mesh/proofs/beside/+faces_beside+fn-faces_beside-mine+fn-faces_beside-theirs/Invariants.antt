use Rattle.std.proofs.Common.{◌-◌, ◌*◌}
use Rattle.ring_mesh.proofs.beside.+faces_beside+fn-faces_beside-mine+fn-faces_beside-theirs.Given as goal

abbrev pub decreases-faces_beside : goal.decreases-faces_beside
decreases-faces_beside g l = 2 * l.depth

abbrev pub decreases-mine : goal.decreases-mine
decreases-mine g l = 2 * l.depth - 1

abbrev pub decreases-theirs : goal.decreases-theirs
decreases-theirs g l = 2 * l.depth - 1
