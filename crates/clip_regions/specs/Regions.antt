-- A region is a rectangle of cells: those from column x0 to column x1 and from row y0 to row y1, all four included.
-- It stands for its set of cells.
use Rattle.std.specs.Prelude.{◌≡◌, ℕ, ◌*◌, ◌^◌, Bool, ◌&&◌, ◌||◌, ℤ, pos, negsuc, neg_ℤ, ◌+ℤ◌, ◌-ℤ◌, ◌*ℤ◌, ◌≤ℤ◌, int_lt, int_le, List, map, flat_map, if◌then◌else◌}
use Rattle.std.specs.List.{range_with_len}
use Rattle.std.specs.Int.{int_min, int_max, int_gap}
use Rattle.clip_regions.specs.declared.region.Region.{Region}
use Rattle.clip_regions.specs.FloorDivision.{floor_div, floor_rem}

-- the cell in column i and row j lies in the region
unfoldable pub contains : Region → ℤ → ℤ → Bool
contains r i j = (int_le r.x0 i && int_le i r.x1) && (int_le r.y0 j && int_le j r.y1)

-- the region has no cell
unfoldable pub is_empty : Region → Bool
is_empty r = int_lt r.x1 r.x0 || int_lt r.y1 r.y0

-- the one spelling of a region that has no cell
abbrev pub empty_region : Region
empty_region = record { x0 = pos 0; y0 = pos 0; x1 = negsuc 0; y1 = negsuc 0 }

-- the region, or the one spelling where it has no cell
unfoldable pub spelled : Region → Region
spelled r = if is_empty r then empty_region else r

-- the cells that lie in both regions
unfoldable pub meet : Region → Region → Region
meet a b =
    spelled (record { x0 = int_max a.x0 b.x0; y0 = int_max a.y0 b.y0; x1 = int_min a.x1 b.x1; y1 = int_min a.y1 b.y1 })

-- the region with each end moved inwards
unfoldable pub erode : Region → ℤ → Region
erode r by = spelled (record { x0 = r.x0 +ℤ by; y0 = r.y0 +ℤ by; x1 = r.x1 -ℤ by; y1 = r.y1 -ℤ by })

-- the region in coordinates of half the size, for even corners
unfoldable pub halve : Region → Region
halve r =
    spelled (record { x0 = floor_div r.x0 2; y0 = floor_div r.y0 2; x1 = floor_div r.x1 2; y1 = floor_div r.y1 2 })

-- the region in coordinates of double the size: each corner doubled
unfoldable pub double : Region → Region
double r =
    spelled (record { x0 = pos 2 *ℤ r.x0; y0 = pos 2 *ℤ r.y0; x1 = pos 2 *ℤ r.x1; y1 = pos 2 *ℤ r.y1 })

-- each cell of b lies in a
unfoldable pub holds : Region → Region → Bool
holds a b = is_empty b || ((int_le a.x0 b.x0 && int_le b.x1 a.x1) && (int_le a.y0 b.y0 && int_le b.y1 a.y1))

-- how many columns and how many rows lie between the corners
unfoldable pub columns : Region → ℕ
columns r = int_gap r.x0 (r.x1 +ℤ pos 1)

unfoldable pub rows : Region → ℕ
rows r = int_gap r.y0 (r.y1 +ℤ pos 1)

-- how many cells the region has
unfoldable pub area : Region → ℕ
area r = columns r * rows r

-- the whole numbers from a on, n of them, ascending
abbrev pub numbers_from : ℤ → ℕ → List ℤ
numbers_from a n = map (λ i. a +ℤ pos i) (range_with_len 0 n)

-- the cells of a region, as pairs of column and row: row by row, each from the west
abbrev pub cells : Region → List (ℤ × ℤ)
cells r = flat_map (λ j. map (λ i. (i, j)) (numbers_from r.x0 (columns r))) (numbers_from r.y0 (rows r))

-- no corner is farther from zero than n
pub record IsWithin (n : ℕ) (r : Region) : Type 0 where
  pub x0_low : neg_ℤ (pos n) ≤ℤ r.x0
  pub x0_high : r.x0 ≤ℤ pos n
  pub y0_low : neg_ℤ (pos n) ≤ℤ r.y0
  pub y0_high : r.y0 ≤ℤ pos n
  pub x1_low : neg_ℤ (pos n) ≤ℤ r.x1
  pub x1_high : r.x1 ≤ℤ pos n
  pub y1_low : neg_ℤ (pos n) ≤ℤ r.y1
  pub y1_high : r.y1 ≤ℤ pos n

-- the corners lie between -2^28 and 2^28
abbrev pub IsPlaced : Region → Type 0
IsPlaced r = IsWithin (2 ^ 28) r

-- all four corners are even
pub record HasEvenCorners (r : Region) : Type 0 where
  pub x0 : floor_rem r.x0 2 ≡ 0
  pub y0 : floor_rem r.y0 2 ≡ 0
  pub x1 : floor_rem r.x1 2 ≡ 0
  pub y1 : floor_rem r.y1 2 ≡ 0
