-- The blend is all the coarser level's at the border, and none of it there on the coarser level.
use Rattle.mesh_laws.proofs.Seams.{agreeing}
use Rattle.mesh_laws.proofs.laws.borders_agree.Goals as goal

pub returns : goal.returns
returns c = λ terrain k actives size drawn. agreeing terrain k actives size drawn
