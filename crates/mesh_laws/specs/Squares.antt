-- The squares of the parts of an active region, by their north-west corners.
use Rattle.std.specs.Prelude.{ℕ, List, [], ◌∷◌, flat_map, if◌then◌else◌}
use Rattle.clip_regions.specs.declared.region.Region.{Region}
use Rattle.clip_regions.specs.Regions.{is_empty, cells}
use Rattle.mesh_model.specs.declared.shapes.Vertex.{Vertex}
use Rattle.mesh_model.specs.Vertices.{hole}
use Rattle.mesh_model.specs.Parts.{corners_at, squares_in, square_triangles}

-- the squares of each part of an active region: all of them where it has no hole, else those north, west, east and
-- south of it
unfoldable pub part_squares : Region → Region → List Region
part_squares finer active =
    let gap = hole finer in
    if is_empty active then []
    else if is_empty gap then squares_in active ∷ []
    else
    squares_in (corners_at active.x0 active.y0 active.x1 gap.y0)
    ∷ squares_in (corners_at active.x0 gap.y0 gap.x0 gap.y1)
    ∷ squares_in (corners_at gap.x1 gap.y0 active.x1 gap.y1)
    ∷ squares_in (corners_at active.x0 gap.y1 active.x1 active.y1)
    ∷ []

-- the triangles of some squares, row by row
unfoldable pub triangles_in : List Vertex → ℕ → Region → List (List ℕ)
triangles_in vertices level squares = flat_map (λ cell. square_triangles vertices level cell.0 cell.1) (cells squares)
