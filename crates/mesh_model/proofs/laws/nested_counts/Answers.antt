-- Level by level: what the region has, less what its hole has.
use Rattle.mesh_model.proofs.Tallies.{nested_vertices, nested_triangles}
use Rattle.mesh_model.proofs.laws.nested_counts.Goals as goal

pub returns-clause-vertices : goal.returns-clause-vertices
returns-clause-vertices c = λ terrain k e actives nested. nested_vertices terrain k e actives nested

pub returns-clause-triangles : goal.returns-clause-triangles
returns-clause-triangles c = λ terrain k e actives shapes nested. nested_triangles terrain k e actives shapes nested
