-- Rows of heights in the table of a level.
use Rattle.std.specs.Prelude.{◌≡◌, ◌⊎◌, ℕ, ◌+◌, ◌*◌, ◌<◌, ◌≤◌, List, ◌++◌, replicate, ℤ, pos, slice_index_or}
use Rattle.clip_regions.specs.declared.region.Region.{Region}
use Rattle.clip_regions.specs.Regions.{columns, rows}
use Rattle.store_reader.specs.declared.table.Span.{Span}

-- n numbers of a list, from one place on, stand in a table from another place on
abbrev pub IsRowIn : ℕ → List ℤ → ℕ → ℕ → List ℤ → Type 0
IsRowIn n heights from at table =
    (a : ℕ) → a < n → slice_index_or table (at + a) (pos 0) ≡ slice_index_or heights (from + a) (pos 0)

-- all but n numbers from a place on are as before
abbrev pub IsKeptBeside : ℕ → ℕ → List ℤ → List ℤ → Type 0
IsKeptBeside n at old new =
    (x : ℕ) → (x < at) ⊎ (at + n ≤ x) → slice_index_or new x (pos 0) ≡ slice_index_or old x (pos 0)

-- the place in a table of so many columns of the number in column a and row b of a span
abbrev pub place_in : ℕ → Span → ℕ → ℕ → ℕ
place_in columns span a b = (span.y0 + b) * columns + (span.x0 + a)

-- the first n rows of a span stand in a table
abbrev pub AreRowsIn : ℕ → ℕ → Span → List ℤ → List ℤ → Type 0
AreRowsIn n columns span heights table =
    (a b : ℕ) → a < span.width → b < n
    → slice_index_or table (place_in columns span a b) (pos 0) ≡ slice_index_or heights (b * span.width + a) (pos 0)

-- all but the first n rows of a span are as before
abbrev pub IsKeptOutside : ℕ → ℕ → Span → List ℤ → List ℤ → Type 0
IsKeptOutside n columns span old new =
    (x : ℕ) → ((a b : ℕ) → a < span.width → b < n → x ≡ place_in columns span a b → ⊥)
    → slice_index_or new x (pos 0) ≡ slice_index_or old x (pos 0)

-- the span is that of a region, which lies in a table
pub record IsSpanOf (r : Region) (span : Span) : Type 0 where
  pub west : r.x0 ≡ pos span.x0
  pub north : r.y0 ≡ pos span.y0
  pub across : span.width ≡ columns r
  pub down : span.rows ≡ rows r

-- a table whose first n numbers are elsewhere, with 0 in their places
abbrev pub behind_cells : ℕ → List ℤ → List ℤ
behind_cells n table = replicate n (pos 0) ++ table
