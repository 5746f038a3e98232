-- The number of triangles is that over no vertices.
use Rattle.std.proofs.Common.{length, ◌∙◌}
use Rattle.mesh_model.specs.Mesh.{mesh}
use Rattle.mesh_plain.proofs.Alike.{mesh_count}
use Rattle.mesh_plain.proofs.Nears.{few_is}
use Rattle.mesh_plain.proofs.counts.few_triangles.Goals as goal

pub returns : goal.returns
returns c = record {
  value = λ terrain k. few_is c.in_ok-count.count (length (mesh terrain k c.args.actives.now).triangles) (c.in_ok-count.ensures ∙ mesh_count terrain k c.args.actives.now);
}
