-- The triangles of a row of squares.
use Rattle.std.specs.Prelude.{ℕ, List, pos, ◌+ℤ◌}
use Rattle.clip_regions.specs.declared.region.Region.{Region}
use Rattle.mesh_model.specs.declared.shapes.Vertex.{Vertex}
use Rattle.mesh_model.specs.Parts.{square_triangles}

-- the triangles of the square in column u and row v of a region, counted from its north-west corner
abbrev pub strip_square : List Vertex → ℕ → Region → ℕ → ℕ → List (List ℕ)
strip_square vertices level squares v u = square_triangles vertices level (squares.x0 +ℤ pos u) (squares.y0 +ℤ pos v)
