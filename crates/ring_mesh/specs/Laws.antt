-- Laws of adding parts.
use Rattle.std.specs.Prelude.{ℕ, ◌+◌, ◌<◌, List, ◌++◌, length}
use Rattle.mesh_model.specs.declared.shapes.Vertex.{Vertex}
use Rattle.mesh_model.specs.declared.shapes.Part.{Part}
use Rattle.mesh_model.specs.Parts.{PartTriangles}
use Rattle.ring_mesh.specs.Added.{Adds, triangles_of}

-- some parts are added, and then others: all of them are added
abbrev pub AddedTwice : Type 0
AddedTwice =
    (vertices : List Vertex) (ps qs : List PartTriangles) (t t1 t2 : List (List ℕ)) (p p1 p2 : List Part) →
    Adds vertices ps t p t1 p1 → Adds vertices qs t1 p1 t2 p2 → Adds vertices (ps ++ qs) t p t2 p2

-- where all are to be added, the others are left after the first of them
abbrev pub AddedRest : Type 0
AddedRest =
    (vertices : List Vertex) (ps qs : List PartTriangles) (t t1 t2 : List (List ℕ)) (p p1 p2 : List Part) →
    Adds vertices (ps ++ qs) t p t2 p2 → Adds vertices ps t p t1 p1 → Adds vertices qs t1 p1 t2 p2

-- where all have few triangles, the first of them have
abbrev pub FewFirst : Type 0
FewFirst =
    (ps qs : List PartTriangles) (n m : ℕ) → n + length (triangles_of (ps ++ qs)) < m → n + length (triangles_of ps) < m

-- and the others, after the first of them
abbrev pub FewRest : Type 0
FewRest =
    (vertices : List Vertex) (ps qs : List PartTriangles) (t t1 : List (List ℕ)) (p p1 : List Part) (m : ℕ) →
    Adds vertices ps t p t1 p1 → length t + length (triangles_of (ps ++ qs)) < m
    → length t1 + length (triangles_of qs) < m
