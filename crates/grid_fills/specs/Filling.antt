-- Heights that are written one after the other.
use Rattle.std.specs.Prelude.{◌≡◌, ℕ, ◌/◌, ◌%◌, ◌<◌, ℤ, pos, ◌+ℤ◌, ◌≤ℤ◌, List, length, slice_index_or}
use Rattle.clip_regions.specs.declared.region.Region.{Region}

-- the first k of 64 heights are those of a region's cells, the n-th in column n mod across and row n div across
pub record IsFilledTo (height : ℤ → ℤ → ℤ) (r : Region) (across k : ℕ) (out : List ℤ) : Type 0 where
  pub many : length out ≡ 64
  pub heights :
      (n : ℕ) → n < k →
      slice_index_or out n (pos 0) ≡ height (r.x0 +ℤ pos (n % across)) (r.y0 +ℤ pos (n / across))

-- the heights of a region's cells are 0
abbrev pub AreZero : (ℤ → ℤ → ℤ) → Region → Type 0
AreZero height r =
    (i j : ℤ) → r.x0 ≤ℤ i → i ≤ℤ r.x1 → r.y0 ≤ℤ j → j ≤ℤ r.y1 → height i j ≡ pos 0
