-- Parts that are added one after another to the lists of a mesh.
use Rattle.std.specs.Prelude.{ℕ, ◌+◌, ◌^◌, ◌<◌, List, ◌++◌, length}
use Rattle.mesh_model.specs.declared.shapes.Vertex.{Vertex}
use Rattle.mesh_model.specs.declared.shapes.Part.{Part}
use Rattle.mesh_model.specs.Parts.{PartTriangles}
use Rattle.mesh_model.specs.Mesh.{parts_from}
use Rattle.ring_mesh.specs.Added.{Adds, triangles_of}

-- of all the parts that are to be added to the first two lists these are left, after the next two lists
pub record IsLeft (vertices : List Vertex) (all left : List PartTriangles) (t : List (List ℕ)) (p : List Part)
    (t1 : List (List ℕ)) (p1 : List Part) : Type 0 where
  pub adds : Adds vertices left t1 p1 (t ++ triangles_of all) (p ++ parts_from vertices (length t) all)
  pub few : length t1 + length (triangles_of left) < 2 ^ 31
