-- The coded cells of a region by their columns, and tables of codes.
use Rattle.std.specs.Prelude.{ℕ, ◌≡◌, false, List, [], ◌∷◌, map, filter, length, ℤ, pos, negsuc, ◌+ℤ◌, ◌-ℤ◌, slice_index_or}
use Rattle.std.specs.List.{flat_map, range_with_len}
use Rattle.clip_regions.specs.declared.region.Region.{Region}
use Rattle.rice_residuals.specs.Code.{IsResidual}
use Rattle.store_model.specs.Blocks.{is_coded}

-- which of the first n columns of a region have a coded cell in its row b
abbrev pub coded_columns : Region → ℕ → ℕ → List ℕ
coded_columns region b n = filter (λ a. is_coded (region.x0 +ℤ pos a) (region.y0 +ℤ pos b)) (range_with_len 0 n)

-- the number in column a and row b of a table of rows
abbrev pub cell_of : List (List ℤ) → ℕ → ℕ → ℤ
cell_of table a b = slice_index_or (slice_index_or table b []) a (pos 0)

-- what a row of a table has at those columns
abbrev pub row_values : Region → ℕ → ℕ → List ℤ → List ℤ
row_values region b n row = map (λ a. slice_index_or row a (pos 0)) (coded_columns region b n)

-- the first four of some codes at every other of eight columns, from the second on
abbrev pub spread_out : List ℤ → List ℤ
spread_out values =
    pos 0 ∷ slice_index_or values 0 (pos 0) ∷ pos 0 ∷ slice_index_or values 1 (pos 0)
    ∷ pos 0 ∷ slice_index_or values 2 (pos 0) ∷ pos 0 ∷ slice_index_or values 3 (pos 0) ∷ []

-- what a table has at the coded cells of the first n rows of a region, n columns wide
abbrev pub table_values : Region → ℕ → ℕ → List (List ℤ) → List ℤ
table_values region columns n table =
    flat_map (λ b. row_values region b columns (slice_index_or table b [])) (range_with_len 0 n)

-- how many coded cells the first n rows of a region have
abbrev pub coded_before : Region → ℕ → ℕ → ℕ
coded_before region columns n = length (flat_map (λ b. coded_columns region b columns) (range_with_len 0 n))

-- a row has 0 at each column that has no coded cell in row b
abbrev pub IsCodeRow : Region → ℕ → List ℤ → Type 0
IsCodeRow region b row =
    (a : ℕ) → is_coded (region.x0 +ℤ pos a) (region.y0 +ℤ pos b) ≡ false → slice_index_or row a (pos 0) ≡ pos 0

-- each number of a row is one that a code may be
abbrev pub HasCodes : List ℤ → Type 0
HasCodes row = (a : ℕ) → IsResidual (slice_index_or row a (pos 0))

-- the code of a cell by a table, whose first column and row are those of a region
unfoldable pub signed_cell : List (List ℤ) → ℤ → ℤ → ℤ
signed_cell table (pos a) (pos b) = cell_of table a b
signed_cell table (pos a) (negsuc b) = pos 0
signed_cell table (negsuc a) b = pos 0

abbrev pub table_code : Region → List (List ℤ) → ℤ → ℤ → ℤ
table_code region table i j = signed_cell table (i -ℤ region.x0) (j -ℤ region.y0)
