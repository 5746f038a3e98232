-- Voids, the samples where no height is known, and the heights that stand in their places.
use Rattle.std.specs.Prelude.{ℕ, ◌+◌, Bool, false, not, ◌==◌, ◌++◌, List, map, find, length, reverse, take, drop, ℤ, pos, negsuc, unwrap_or}
use Rattle.std.specs.List.{range_with_len}

-- is this sample a void, -32768?
unfoldable pub is_void : ℤ → Bool
is_void (pos n) = false
is_void (negsuc n) = n == 32767

-- the first of some samples that is no void, and 0 where all are voids
unfoldable pub first_known : List ℤ → ℤ
first_known samples = unwrap_or (find (λ sample. not (is_void sample)) samples) (pos 0)

-- the height at place n of a row of samples: the nearest known one, from place n to the west and then from there to the
-- east
unfoldable pub known_at : List ℤ → ℕ → ℤ
known_at row n = first_known (reverse (take (n + 1) row) ++ drop (n + 1) row)

-- a row of samples with its voids filled
unfoldable pub without_voids : List ℤ → List ℤ
without_voids row = map (known_at row) (range_with_len 0 (length row))
