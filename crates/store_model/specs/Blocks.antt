-- What the bytes of a block stand for: heights as they are, or a block word of codes over the coarser level's
-- predictions.
use Rattle.std.specs.Prelude.{◌≡◌, ℕ, ◌-◌, ◌/◌, ◌%◌, Bool, false, ◌&&◌, ◌==◌, not, IsTrue, List, [], ◌∷◌, map, filter, flat_map, length, ℤ, pos, negsuc}
use Rattle.clip_regions.specs.declared.region.Region.{Region}
use Rattle.clip_regions.specs.Regions.{contains, columns, rows, numbers_from}
use Rattle.clip_regions.specs.FloorDivision.{floor_rem}
use Rattle.four_point.specs.Steps.{value_of, brought, IsNear}
use Rattle.rice_residuals.specs.Word.{IsWordOf}

-- the cell has an odd coordinate, so that a code stands for it
unfoldable pub is_coded : ℤ → ℤ → Bool
is_coded i j = not ((floor_rem i 2 == 0) && (floor_rem j 2 == 0))

-- what a function of cells has at the coded cells of a region, row by row from the north and each row from the west
unfoldable pub coded_values : (ℤ → ℤ → ℤ) → Region → List ℤ
coded_values code region =
    flat_map (λ j. map (λ i. code i j) (filter (λ i. is_coded i j) (numbers_from region.x0 (columns region))))
    (numbers_from region.y0 (rows region))

-- how many codes the word of a region's cells has
unfoldable pub code_count : Region → ℕ
code_count region = length (coded_values (λ i j. pos 0) region)

-- a number of 16 bits in its two bytes, the high byte first
unfoldable pub signed_bytes : ℤ → List ℕ
signed_bytes (pos n) = (n / 256) ∷ (n % 256) ∷ []
signed_bytes (negsuc n) = (255 - n / 256) ∷ (255 - n % 256) ∷ []

-- the heights of a region's cells as they are, row by row
unfoldable pub plain_bytes : (ℤ → ℤ → ℤ) → Region → List ℕ
plain_bytes heights region =
    flat_map (λ j. flat_map (λ i. signed_bytes (heights i j)) (numbers_from region.x0 (columns region)))
    (numbers_from region.y0 (rows region))

-- the bytes are a word of the codes of a region's cells, by any parameter; a cell with even coordinates has no code
pub record IsCoding (code : ℤ → ℤ → ℤ) (region : Region) (bytes : List ℕ) : Type 0 where
  pub word : IsWordOf (coded_values code region) bytes
  pub even : (i j : ℤ) → is_coded i j ≡ false → code i j ≡ pos 0

-- the bytes are a word of codes whose values over the coarser heights are heights of 16 bits or near to one, and the
-- region's cells have the heights that these values give
pub record IsWordBlock (coarser heights : ℤ → ℤ → ℤ) (step : ℕ) (region : Region) (bytes : List ℕ) : Type 0 where
  pub code : ℤ → ℤ → ℤ
  pub coding : IsCoding code region bytes
  pub near : (i j : ℤ) → IsTrue (contains region i j) → IsNear step (value_of coarser step i j (code i j))
  pub restored : (i j : ℤ) → IsTrue (contains region i j) → heights i j ≡ brought (value_of coarser step i j (code i j))
