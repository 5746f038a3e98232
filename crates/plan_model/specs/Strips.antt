-- What a level lacks: the strips of its window round its filled region, the pieces of a strip, and the coarser cells
-- that a piece needs.
use Rattle.std.specs.Prelude.{Bool, not, ℤ, pos, ◌+ℤ◌, ◌-ℤ◌, List, [], ◌∷◌, map, filter, flat_map, Option, Some, None, if◌then◌else◌}
use Rattle.std.specs.Int.{int_min, int_max, int_gap}
use Rattle.clip_regions.specs.declared.region.Region.{Region}
use Rattle.clip_regions.specs.FloorDivision.{floor_div}
use Rattle.clip_regions.specs.Regions.{is_empty, meet, numbers_from}
use Rattle.plan_model.specs.Blocks.{block_cells}
use Rattle.plan_model.specs.declared.tiles.Piece.{Piece}

-- the first of a list, where there is one
abbrev pub first_of : {X : Type 0} → List X → Option X
first_of [] = None
first_of (x ∷ xs) = Some x

-- the region has a cell
unfoldable pub has_cell : Region → Bool
has_cell r = not (is_empty r)

-- what lies left of the filled region, over its rows
unfoldable pub left_of : Region → Region → Region
left_of filled window = record { x0 = window.x0; y0 = filled.y0; x1 = filled.x0 -ℤ pos 1; y1 = filled.y1 }

-- what lies right of it, over its rows
unfoldable pub right_of : Region → Region → Region
right_of filled window = record { x0 = filled.x1 +ℤ pos 1; y0 = filled.y0; x1 = window.x1; y1 = filled.y1 }

-- what lies above it, over the window's whole width
unfoldable pub above : Region → Region → Region
above filled window = record { x0 = window.x0; y0 = window.y0; x1 = window.x1; y1 = filled.y0 -ℤ pos 1 }

-- what lies below it, over the window's whole width
unfoldable pub below : Region → Region → Region
below filled window = record { x0 = window.x0; y0 = filled.y1 +ℤ pos 1; x1 = window.x1; y1 = window.y1 }

-- the strips of a filled region in its window: the window where nothing is filled, else left, right, above and below,
-- without empty ones
unfoldable pub strips : Region → Region → List Region
strips filled window =
    if is_empty filled then window ∷ []
    else filter has_cell
    (left_of filled window ∷ right_of filled window ∷ above filled window ∷ below filled window ∷ [])

-- the strip that is filled first
unfoldable pub current_strip : Region → Region → Option Region
current_strip filled window = first_of (strips filled window)

-- the least region that holds both
unfoldable pub hull : Region → Region → Region
hull a b =
    if is_empty a then b
    else (if is_empty b then a else record {
      x0 = int_min a.x0 b.x0;
      y0 = int_min a.y0 b.y0;
      x1 = int_max a.x1 b.x1;
      y1 = int_max a.y1 b.y1;
    })

-- the columns and the rows of the blocks that a region meets, ascending
unfoldable pub block_columns : Region → List ℤ
block_columns r =
    numbers_from (floor_div r.x0 8) (int_gap (floor_div r.x0 8) (floor_div r.x1 8 +ℤ pos 1))

unfoldable pub block_rows : Region → List ℤ
block_rows r = numbers_from (floor_div r.y0 8) (int_gap (floor_div r.y0 8) (floor_div r.y1 8 +ℤ pos 1))

-- the meet of a region with a block
unfoldable pub piece_in : Region → ℤ → ℤ → Piece
piece_in r bx by = record { bx = bx; by = by; cells = meet r (block_cells bx by) }

-- the pieces of a region: its meets with the blocks, row by row from the north, each row from the west
unfoldable pub pieces : Region → List Piece
pieces r =
    if is_empty r then [] else flat_map (λ by. map (λ bx. piece_in r bx by) (block_columns r)) (block_rows r)

-- the coarser cells from which a region is predicted and blended: its half and one more cell on each side
unfoldable pub need : Region → Region
need r = record {
  x0 = floor_div r.x0 2 -ℤ pos 1;
  y0 = floor_div r.y0 2 -ℤ pos 1;
  x1 = floor_div (r.x1 +ℤ pos 1) 2 +ℤ pos 1;
  y1 = floor_div (r.y1 +ℤ pos 1) 2 +ℤ pos 1;
}
