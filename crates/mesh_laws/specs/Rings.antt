-- The rings of nested active regions, the finest first, and the places of their vertices in closed form.
use Rattle.std.specs.Prelude.{ℕ, zero, suc, ◌+◌, ◌-◌, ◌*◌, min, not, ℤ, pos, ◌+ℤ◌, ◌*ℤ◌, int_lt, List, [], ◌∷◌, ◌++◌, map, filter, flat_map, if◌then◌else◌}
use Rattle.std.specs.List.{range_with_len}
use Rattle.std.specs.Int.{int_gap}
use Rattle.clip_regions.specs.declared.region.Region.{Region}
use Rattle.clip_regions.specs.Regions.{contains, is_empty, empty_region, columns, rows, area, cells}
use Rattle.mesh_model.specs.declared.shapes.PartKind.{PartKind}
use Rattle.mesh_model.specs.declared.shapes.PartKind.TheVariants.{Whole, North, West, East, South}
use Rattle.mesh_model.specs.Height.{active_at}
use Rattle.mesh_model.specs.Vertices.{hole}
use Rattle.mesh_model.specs.Parts.{PartTriangles, corners_at, squares_in}
use Rattle.mesh_laws.specs.declared.ring.Ring.{Ring}

-- the ring that stands before the finest one: it has no cell
abbrev pub no_ring : Ring
no_ring = record { active = empty_region; hole = empty_region; first = 0 }

-- how many vertices a ring lists
unfoldable pub ring_size : Ring → ℕ
ring_size ring = area ring.active - area ring.hole

-- the ring of the next coarser level, whose active region this is
unfoldable pub next_ring : Ring → Region → Ring
next_ring finer active =
    record { active = active; hole = hole finer.active; first = finer.first + ring_size finer }

-- the active region of the next finer level, and the empty one before the finest
abbrev pub finer_of : List Region → ℕ → Region
finer_of actives zero = empty_region
finer_of actives (suc level) = active_at actives level

-- n cells of row j, from column i on
unfoldable pub run : ℤ → ℤ → ℕ → List (ℤ × ℤ)
run i j n = map (λ u. (i +ℤ pos u, j)) (range_with_len 0 n)

-- row j of the cells of an active region outside the hole
unfoldable pub ring_row : Region → Region → ℤ → List (ℤ × ℤ)
ring_row gap active j = filter (λ cell. not (contains gap cell.0 cell.1)) (run active.x0 j (columns active))

-- how many rows of the hole end before the cell in column i and row j, row by row
unfoldable pub passed_rows : Region → ℤ → ℤ → ℕ
passed_rows gap i j = min (int_gap gap.y0 (if int_lt gap.x1 i then j +ℤ pos 1 else j)) (rows gap)

-- how many cells a ring lists before that cell
unfoldable pub listed_before : Region → Region → ℤ → ℤ → ℕ
listed_before gap active i j =
    int_gap active.y0 j * columns active + int_gap active.x0 i - columns gap * passed_rows gap i j

-- the place of the vertex at a cell that a ring lists
unfoldable pub place_in : Ring → ℤ → ℤ → ℕ
place_in ring i j = ring.first + listed_before ring.hole ring.active i j

-- the place of the vertex at a cell of a ring or on the border of its hole, which is a vertex of the finer ring
unfoldable pub corner_of : Ring → Ring → ℤ → ℤ → ℕ
corner_of finer ring i j =
    if contains ring.hole i j then place_in finer (pos 2 *ℤ i) (pos 2 *ℤ j) else place_in ring i j

-- the two triangles of the square of a ring whose north-west corner is (i, j)
unfoldable pub ring_square : Ring → Ring → ℤ → ℤ → List (List ℕ)
ring_square finer ring i j =
    let north_west = corner_of finer ring i j in
    let south_west = corner_of finer ring i (j +ℤ pos 1) in
    let south_east = corner_of finer ring (i +ℤ pos 1) (j +ℤ pos 1) in
    let north_east = corner_of finer ring (i +ℤ pos 1) j in
    (north_west ∷ south_west ∷ south_east ∷ []) ∷ (north_west ∷ south_east ∷ north_east ∷ []) ∷ []

-- the triangles of the squares with these north-west corners, row by row
unfoldable pub ring_triangles : Ring → Ring → Region → List (List ℕ)
ring_triangles finer ring squares = flat_map (λ cell. ring_square finer ring cell.0 cell.1) (cells squares)

-- a part of the squares with these north-west corners
unfoldable pub ring_part : Ring → Ring → ℕ → PartKind → Region → PartTriangles
ring_part finer ring level kind squares =
    record { level = level; kind = kind; triangles = ring_triangles finer ring squares }

-- the parts of a ring: all its squares where it has no hole, else those north, west, east and south of the hole
unfoldable pub ring_parts : ℕ → Ring → Ring → List PartTriangles
ring_parts level finer ring =
    let gap = ring.hole in
    let active = ring.active in
    if is_empty active then []
    else if is_empty gap then
    ring_part finer ring level Whole (squares_in active) ∷ []
    else
    ring_part finer ring level North (squares_in (corners_at active.x0 active.y0 active.x1 gap.y0))
    ∷ ring_part finer ring level West (squares_in (corners_at active.x0 gap.y0 gap.x0 gap.y1))
    ∷ ring_part finer ring level East (squares_in (corners_at gap.x1 gap.y0 active.x1 gap.y1))
    ∷ ring_part finer ring level South (squares_in (corners_at active.x0 gap.y1 active.x1 active.y1))
    ∷ []

-- the parts of the rings of these regions, from this level on, after the next finer ring
abbrev pub ring_parts_from : ℕ → Ring → List Region → List PartTriangles
ring_parts_from level finer [] = []
ring_parts_from level finer (active ∷ coarser) =
    ring_parts level finer (next_ring finer active) ++ ring_parts_from (level + 1) (next_ring finer active) coarser
