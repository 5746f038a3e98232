-- The heights of a piece of a block.
use Rattle.std.specs.Prelude.{◌≡◌, neg_ℤ, ℕ, ◌+◌, ◌*◌, ◌/◌, ◌%◌, ◌<◌, IsTrue, List, ℤ, pos, ◌+ℤ◌, ◌-ℤ◌, ◌*ℤ◌, ◌≤ℤ◌, nat_abs, if◌then◌else◌, slice_index_or}
use Rattle.clip_regions.specs.declared.region.Region.{Region}
use Rattle.clip_regions.specs.Regions.{contains, columns, IsPlaced}
use Rattle.terrain_model.specs.Tile.{raw_sample}
use Rattle.four_point.specs.Patches.{IsOfBlock}
use Rattle.four_point.specs.Steps.{value_of, brought, IsNear}
use Rattle.four_point.specs.declared.patch.Patch.{Patch}
use Rattle.block_heights.specs.declared.block.PieceFault.{PieceFault}
use Rattle.block_heights.specs.declared.block.PieceFault.TheVariants.{BadBlock, OutOfRange}

-- a region with cells, of at most eight columns and rows
pub record IsSmall (region : Region) : Type 0 where
  pub placed : IsPlaced region
  pub some_columns : region.x0 ≤ℤ region.x1
  pub few_columns : region.x1 ≤ℤ (region.x0 +ℤ pos 7)
  pub some_rows : region.y0 ≤ℤ region.y1
  pub few_rows : region.y1 ≤ℤ (region.y0 +ℤ pos 7)

-- the cell (i, j) lies in a region
pub record Lies (r : Region) (i j : ℤ) : Type 0 where
  pub west : r.x0 ≤ℤ i
  pub east : i ≤ℤ r.x1
  pub north : r.y0 ≤ℤ j
  pub south : j ≤ℤ r.y1

-- the region's cells are of the block of a patch
pub record IsInPatch (patch : Patch) (region : Region) : Type 0 where
  pub first_column : IsOfBlock patch.i0 region.x0
  pub last_column : IsOfBlock patch.i0 region.x1
  pub first_row : IsOfBlock patch.j0 region.y0
  pub last_row : IsOfBlock patch.j0 region.y1

-- heights inside a region, and 0 elsewhere
unfoldable pub within : Region → (ℤ → ℤ → ℤ) → ℤ → ℤ → ℤ
within inside heights i j = if contains inside i j then heights i j else pos 0

-- the column and the row of cell k of a region, row by row from the north and each row from the west
abbrev pub column_of : Region → ℕ → ℤ
column_of region k = region.x0 +ℤ pos (k % columns region)

abbrev pub row_of : Region → ℕ → ℤ
row_of region k = region.y0 +ℤ pos (k / columns region)

-- a column and a row are those of cell k, or of the place behind the last cell
pub record IsCellAt (region : Region) (k : ℕ) (i j : ℤ) : Type 0 where
  pub column : i ≡ column_of region k
  pub row : j ≡ row_of region k

-- the first n numbers are the heights of a region's cells, row by row
abbrev pub IsPieceUpTo : ℕ → (ℤ → ℤ → ℤ) → Region → List ℤ → Type 0
IsPieceUpTo n heights region out =
    (k : ℕ) → k < n → slice_index_or out k (pos 0) ≡ heights (column_of region k) (row_of region k)

-- the height that a plain block of a region has at a cell
unfoldable pub plain_height : List ℕ → Region → ℤ → ℤ → ℤ
plain_height bytes region i j =
    raw_sample bytes (nat_abs (j -ℤ region.y0) * columns region + nat_abs (i -ℤ region.x0))

-- the height of a cell by its code
abbrev pub coded_height : (ℤ → ℤ → ℤ) → ℕ → (ℤ → ℤ → ℤ) → ℤ → ℤ → ℤ
coded_height coarser step code i j = brought (value_of coarser step i j (code i j))

-- the values of the first n cells of a piece that lie inside are near heights of 16 bits
abbrev pub AreNearUpTo : ℕ → (ℤ → ℤ → ℤ) → ℕ → (ℤ → ℤ → ℤ) → Region → Region → Type 0
AreNearUpTo n coarser step code inside cells =
    (k : ℕ) → k < n → IsTrue (contains inside (column_of cells k) (row_of cells k))
    → IsNear step
    (value_of coarser step (column_of cells k) (row_of cells k) (code (column_of cells k) (row_of cells k)))

-- cell k of a piece is the first that lies inside and whose value isn't near a height of 16 bits
pub record IsOutAt (k : ℕ) (coarser : ℤ → ℤ → ℤ) (step : ℕ) (code : ℤ → ℤ → ℤ) (inside cells : Region)
    (i j value : ℤ) : Type 0 where
  pub column : i ≡ column_of cells k
  pub row : j ≡ row_of cells k
  pub within_block : IsTrue (contains inside i j)
  pub value_is : value ≡ value_of coarser step i j (code i j)
  pub far : ¬ IsNear step value
  pub first : AreNearUpTo k coarser step code inside cells

-- why a piece of a block of codes has no heights
abbrev pub HasOut : (ℤ → ℤ → ℤ) → ℕ → (ℤ → ℤ → ℤ) → Region → Region → ℕ → PieceFault → Type 0
HasOut coarser step code inside cells n (BadBlock fault) = ⊥
HasOut coarser step code inside cells n (OutOfRange i j value) =
    (k : ℕ) × (k < n) × IsOutAt k coarser step code inside cells i j value

-- the fault is that of a cell
abbrev pub IsOutCell : (ℤ → ℤ → ℤ) → ℕ → (ℤ → ℤ → ℤ) → Region → ℤ → ℤ → PieceFault → Type 0
IsOutCell coarser step code inside i j (BadBlock fault) = ⊥
IsOutCell coarser step code inside i j (OutOfRange a b value) =
    (a ≡ i) × (b ≡ j) × IsTrue (contains inside i j) × (value ≡ value_of coarser step i j (code i j))
    × (¬ IsNear step value)

-- the value in column a of a row, by the predictions of its block's row, of which so many come before the first
-- column, and by its codes
abbrev pub row_value : List ℤ → ℕ → List ℤ → ℕ → ℕ → ℤ
row_value predicted before codes step a =
    slice_index_or predicted (before + a) (pos 0) +ℤ pos step *ℤ slice_index_or codes a (pos 0)

-- the fault is that of the cell (i, j), which has this value
abbrev pub IsOutValue : ℤ → ℕ → ℤ → ℤ → PieceFault → Type 0
IsOutValue value step i j (BadBlock fault) = ⊥
IsOutValue value step i j (OutOfRange a b v) = (a ≡ i) × (b ≡ j) × (v ≡ value) × (¬ IsNear step v)

-- a height that is a value itself, which is one of 16 bits
pub record IsExact (value height : ℤ) : Type 0 where
  pub same : height ≡ value
  pub low : neg_ℤ (pos 32768) ≤ℤ value
  pub high : value ≤ℤ pos 32767
