-- The least and the greatest of some heights, and how many blocks a store has.
use Rattle.std.specs.Prelude.{ℕ, zero, suc, ◌+◌, List, ℤ, pos, fold, slice_index_or}
use Rattle.std.specs.Int.{int_min, int_max}
use Rattle.store_model.specs.Sizes.{block_count}

-- the least of some heights, of which there is one
unfoldable pub least_of : List ℤ → ℤ
least_of heights = fold int_min (slice_index_or heights 0 (pos 0)) heights

-- the greatest of some heights, of which there is one
unfoldable pub most_of : List ℤ → ℤ
most_of heights = fold int_max (slice_index_or heights 0 (pos 0)) heights

-- how many blocks the n finest levels of a terrain of this width and height have
abbrev pub all_blocks : ℕ → ℕ → ℕ → ℕ
all_blocks width height zero = 0
all_blocks width height (suc n) = all_blocks width height n + block_count width height n
