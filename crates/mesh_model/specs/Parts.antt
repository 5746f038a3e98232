-- The triangles of a mesh, part by part.
use Rattle.std.specs.Prelude.{ℕ, ◌+◌, ◌^◌, ℤ, pos, ◌+ℤ◌, ◌-ℤ◌, ◌*ℤ◌, List, [], ◌∷◌, ◌++◌, map, reverse, flat_map, if◌then◌else◌}
use Rattle.clip_regions.specs.declared.region.Region.{Region}
use Rattle.clip_regions.specs.Regions.{is_empty, empty_region, cells, columns, rows, numbers_from}
use Rattle.mesh_model.specs.declared.shapes.Vertex.{Vertex}
use Rattle.mesh_model.specs.declared.shapes.PartKind.{PartKind}
use Rattle.mesh_model.specs.declared.shapes.PartKind.TheVariants.{Whole, North, West, East, South, StitchNorth, StitchEast, StitchSouth, StitchWest}
use Rattle.mesh_model.specs.Vertices.{hole, place_of}

-- the triangles of one part, each as the places of its three vertices
pub record PartTriangles : Type 0 where
  pub level : ℕ
  pub kind : PartKind
  pub triangles : List (List ℕ)

-- the place of the vertex at the position of cell (i, j) of a level
unfoldable pub corner_place : List Vertex → ℕ → ℤ → ℤ → ℕ
corner_place vertices level i j = place_of vertices (i *ℤ pos (2 ^ level)) (j *ℤ pos (2 ^ level))

-- the two triangles of the square whose north-west corner is (i, j): north-west, south-west, south-east, and
-- north-west, south-east, north-east
unfoldable pub square_triangles : List Vertex → ℕ → ℤ → ℤ → List (List ℕ)
square_triangles vertices level i j =
    let north_west = corner_place vertices level i j in
    let south_west = corner_place vertices level i (j +ℤ pos 1) in
    let south_east = corner_place vertices level (i +ℤ pos 1) (j +ℤ pos 1) in
    let north_east = corner_place vertices level (i +ℤ pos 1) j in
    (north_west ∷ south_west ∷ south_east ∷ []) ∷ (north_west ∷ south_east ∷ north_east ∷ []) ∷ []

-- the region with these corners
abbrev pub corners_at : ℤ → ℤ → ℤ → ℤ → Region
corners_at x0 y0 x1 y1 = record { x0 = x0; y0 = y0; x1 = x1; y1 = y1 }

-- the north-west corners of the squares of a region: its cells but for the last column and the last row
unfoldable pub squares_in : Region → Region
squares_in r = record { x0 = r.x0; y0 = r.y0; x1 = r.x1 -ℤ pos 1; y1 = r.y1 -ℤ pos 1 }

-- a part of the squares with these north-west corners, row by row
unfoldable pub square_part : List Vertex → ℕ → PartKind → Region → PartTriangles
square_part vertices level kind squares =
    record {
      level = level;
      kind = kind;
      triangles = flat_map (λ cell. square_triangles vertices level cell.0 cell.1) (cells squares);
    }

-- the square parts of an active region: all its squares where it has no hole, else those north, west, east and south of
-- the hole
unfoldable pub square_parts : List Vertex → ℕ → Region → Region → List PartTriangles
square_parts vertices level finer active =
    let gap = hole finer in
    if is_empty active then []
    else if is_empty gap then square_part vertices level Whole (squares_in active) ∷ []
    else
    square_part vertices level North (squares_in (corners_at active.x0 active.y0 active.x1 gap.y0))
    ∷ square_part vertices level West (squares_in (corners_at active.x0 gap.y0 gap.x0 gap.y1))
    ∷ square_part vertices level East (squares_in (corners_at gap.x1 gap.y0 active.x1 gap.y1))
    ∷ square_part vertices level South (squares_in (corners_at active.x0 gap.y1 active.x1 active.y1))
    ∷ []

-- each two steps of a walk, from p over m to q, as the triangle p, m, q
abbrev pub stitches_from : ℕ → List ℕ → List (List ℕ)
stitches_from p [] = []
stitches_from p (m ∷ []) = []
stitches_from p (m ∷ (q ∷ walk)) = (p ∷ m ∷ q ∷ []) ∷ stitches_from q walk

abbrev pub stitches_along : List ℕ → List (List ℕ)
stitches_along [] = []
stitches_along (p ∷ walk) = stitches_from p walk

-- the places of the vertices along a row, from the west, and along a column, from the north
unfoldable pub places_in_row : List Vertex → ℕ → Region → ℤ → List ℕ
places_in_row vertices level active j =
    map (λ i. corner_place vertices level i j) (numbers_from active.x0 (columns active))

unfoldable pub places_in_column : List Vertex → ℕ → Region → ℤ → List ℕ
places_in_column vertices level active i =
    map (λ j. corner_place vertices level i j) (numbers_from active.y0 (rows active))

-- a part of the stitches along a walk
unfoldable pub stitch_part : ℕ → PartKind → List ℕ → PartTriangles
stitch_part level kind walk = record { level = level; kind = kind; triangles = stitches_along walk }

-- the stitches along the border of an active region, walked clockwise as seen from above
unfoldable pub stitch_parts : List Vertex → ℕ → Region → List PartTriangles
stitch_parts vertices level active =
    if is_empty active then []
    else
    stitch_part level StitchNorth (places_in_row vertices level active active.y0)
    ∷ stitch_part level StitchEast (places_in_column vertices level active active.x1)
    ∷ stitch_part level StitchSouth (reverse (places_in_row vertices level active active.y1))
    ∷ stitch_part level StitchWest (reverse (places_in_column vertices level active active.x0))
    ∷ []

-- the square parts of the regions from this level on, whose next finer region is given
abbrev pub square_parts_from : List Vertex → ℕ → Region → List Region → List PartTriangles
square_parts_from vertices level finer [] = []
square_parts_from vertices level finer (active ∷ coarser) =
    square_parts vertices level finer active ++ square_parts_from vertices (level + 1) active coarser

-- the stitch parts of the regions from this level on: the coarsest has none
abbrev pub stitch_parts_from : List Vertex → ℕ → Region → List Region → List PartTriangles
stitch_parts_from vertices level active [] = []
stitch_parts_from vertices level active (next ∷ coarser) =
    stitch_parts vertices level active ++ stitch_parts_from vertices (level + 1) next coarser

abbrev pub all_stitch_parts : List Vertex → List Region → List PartTriangles
all_stitch_parts vertices [] = []
all_stitch_parts vertices (active ∷ coarser) = stitch_parts_from vertices 0 active coarser

-- the parts of a mesh in their order: the squares of each level, then the stitches of each level
unfoldable pub parts_of_regions : List Vertex → List Region → List PartTriangles
parts_of_regions vertices actives =
    square_parts_from vertices 0 empty_region actives ++ all_stitch_parts vertices actives
