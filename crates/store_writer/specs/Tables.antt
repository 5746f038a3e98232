-- Restored heights of a level, and tables of them.
use Rattle.std.specs.Prelude.{ℕ, ◌+◌, ◌*◌, ◌/◌, ◌%◌, List, map, ℤ, pos, negsuc, nat_lt, if◌then◌else◌, slice_index_or}
use Rattle.std.specs.List.{range_with_len}
use Rattle.clip_regions.specs.declared.region.Region.{Region}
use Rattle.clip_regions.specs.Regions.{contains}
use Rattle.store_model.specs.Restored.{restored_cell}

-- the restored height of a cell of a level's region, and 0 outside
unfoldable pub restored_in : (ℤ → ℤ → ℤ) → (ℤ → ℤ → ℤ) → ℕ → Region → ℤ → ℤ → ℤ
restored_in coarser finer step region i j =
    if contains region i j then restored_cell coarser step i j (finer i j) else pos 0

-- where a table has the cell (i, j): its blocks stand row by row, so many in a row, and a block's 64 heights row by row
unfoldable pub table_place : ℕ → ℕ → ℕ → ℕ
table_place across i j = 64 * (j / 8 * across + i / 8) + (8 * (j % 8) + i % 8)

-- the height of a cell by a table, and 0 outside
unfoldable pub table_height : ℕ → List ℤ → ℤ → ℤ → ℤ
table_height across items (pos i) (pos j) =
    if nat_lt i (8 * across) then slice_index_or items (table_place across i j) (pos 0) else pos 0
table_height across items (pos i) (negsuc j) = pos 0
table_height across items (negsuc i) j = pos 0

-- the 64 heights of the block whose first cell is (x, y)
unfoldable pub block_heights : (ℤ → ℤ → ℤ) → ℕ → ℕ → List ℤ
block_heights heights x y = map (λ n. heights (pos (x + n % 8)) (pos (y + n / 8))) (range_with_len 0 64)
