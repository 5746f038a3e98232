-- Some of the lines of a frame's text.
use Rattle.std.specs.Prelude.{ℕ, List, ◌++◌, flat_map}
use Rattle.mesh_model.specs.declared.shapes.Vertex.{Vertex}
use Rattle.mesh_model.specs.Text.{vertex_line, triangle_line}

-- the lines of these vertices, and then of these triangles
unfoldable pub lines_text : List Vertex → List (List ℕ) → List ℕ
lines_text vertices triangles = flat_map vertex_line vertices ++ flat_map triangle_line triangles
