use Rattle.std.proofs.Common.{◌-◌, ◌*◌}
use Rattle.ring_mesh.proofs.beside.+fn-vertices_beside-mine+fn-vertices_beside-theirs+vertices_beside.Given as goal

abbrev pub decreases-vertices_beside : goal.decreases-vertices_beside
decreases-vertices_beside g l = 2 * l.depth

abbrev pub decreases-mine : goal.decreases-mine
decreases-mine g l = 2 * l.depth - 1

abbrev pub decreases-theirs : goal.decreases-theirs
decreases-theirs g l = 2 * l.depth - 1
