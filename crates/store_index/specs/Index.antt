-- The offsets that an index keeps.
use Rattle.std.specs.Prelude.{◌≡◌, ℕ, ◌+◌, ◌*◌, ◌/◌, List, map}
use Rattle.std.specs.List.{range_with_len}
use Rattle.store_model.specs.Format.{Head}
use Rattle.store_index.specs.Places.{behind, block_total, first_offset}

-- the offsets behind 32 blocks, behind 64 and so on, n of them
abbrev pub marks_of : List ℕ → ℕ → ℕ → List ℕ
marks_of bytes first n = map (λ m. behind bytes first (32 * m + 32)) (range_with_len 0 n)

-- the offset of every 32nd block of a store but the first
abbrev pub IsIndexOf : Head → List ℕ → List ℕ → Type 0
IsIndexOf head bytes marks = marks ≡ marks_of bytes (first_offset head) (block_total head / 32)
