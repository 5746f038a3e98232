-- Vertices that are marked, and numbered anew.
use Rattle.std.specs.Prelude.{ℕ, List, [], ◌∷◌, flat_map, set, slice_index_or, if◌then◌else◌}
use Rattle.mesh_model.specs.declared.shapes.Vertex.{Vertex}
use Rattle.mesh_model.specs.Vertices.{vertex_of_place}
use Rattle.mesh_model.specs.Seen.{is_named}
use Rattle.mesh_model.specs.Text.{vertex_line}

-- a table with these places marked too
abbrev pub marked : List ℕ → List ℕ → List ℕ
marked table [] = table
marked table (place ∷ places) = marked (set table place 1) places

-- the mark of a place: 1 where the triangles have it
unfoldable pub mark_at : List (List ℕ) → ℕ → ℕ
mark_at triangles place = if is_named triangles place then 1 else 0

-- the lines of the vertices at these places
abbrev pub vertex_lines : List Vertex → List ℕ → List ℕ
vertex_lines vertices places =
    flat_map (λ place. vertex_line (vertex_of_place vertices place)) places

-- the number that a table gives a place
abbrev pub numbered : List ℕ → ℕ → ℕ
numbered table place = slice_index_or table place 0
