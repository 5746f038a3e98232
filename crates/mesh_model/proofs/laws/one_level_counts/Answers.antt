-- The counts and the places, by the lemmas on rows.
use Rattle.mesh_model.proofs.Counts.{vertex_count, triangle_count, names}
use Rattle.mesh_model.proofs.laws.one_level_counts.Goals as goal

pub returns-clause-vertices : goal.returns-clause-vertices
returns-clause-vertices c = λ terrain r. vertex_count terrain r

pub returns-clause-triangles : goal.returns-clause-triangles
returns-clause-triangles c = λ r. triangle_count r

pub returns-clause-names : goal.returns-clause-names
returns-clause-names c = λ r. names r
