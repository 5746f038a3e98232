-- By the counts of vertices, squares and stitches, level by level.
use Rattle.plan_model.specs.Window.{margin}
use Rattle.mesh_laws.proofs.Few.{ring_names, few_vertices, few_triangles, few_ring_triangles}
use Rattle.mesh_laws.proofs.laws.meshes_are_small.Goals as goal

pub returns-clause-names : goal.returns-clause-names
returns-clause-names c = λ terrain k actives drawn.
    ring_names terrain k actives (c.nested_names.ensures terrain k (margin drawn.k) actives drawn.drawn.even drawn.drawn.nested)

pub returns-clause-vertices : goal.returns-clause-vertices
returns-clause-vertices c = λ terrain k actives drawn.
    few_vertices terrain k actives drawn (c.nested_counts.ensures.vertices terrain k (margin drawn.k) actives drawn.drawn.nested)

pub returns-clause-triangles : goal.returns-clause-triangles
returns-clause-triangles c = λ terrain k actives drawn.
    few_triangles terrain k actives drawn (c.nested_counts.ensures.triangles terrain k (margin drawn.k) actives drawn.drawn.even drawn.drawn.nested)

pub returns-clause-ring_triangles : goal.returns-clause-ring_triangles
returns-clause-ring_triangles c = λ terrain k actives drawn.
    few_ring_triangles terrain k actives (few_triangles terrain k actives drawn (c.nested_counts.ensures.triangles terrain k (margin drawn.k) actives drawn.drawn.even drawn.drawn.nested))
