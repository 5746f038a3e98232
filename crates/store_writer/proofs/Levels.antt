-- The blocks of a level, one more at a time.
use Rattle.std.proofs.Common.{◌≡◌, ℕ, ◌+◌, List, [], ◌++◌, refl}
use Rattle.std.specs.List.{flat_map, range_with_len}
use Rattle.clip_regions.specs.declared.region.Region.{Region}
use Rattle.store_model.specs.Sizes.{block_count, block_region}
use Rattle.store_writer.specs.Entries.{level_entries}
use Rattle.store_writer.proofs.Rows.{flat_range_more}

-- the first n blocks of a level
unfoldable pub entries_before : (Region → List ℕ) → ℕ → ℕ → ℕ → ℕ → List ℕ
entries_before block width height level n = flat_map (λ k. block (block_region width height level k)) (range_with_len 0 n)

pub entries_none : (block : Region → List ℕ) (width height level : ℕ) → entries_before block width height level 0 ≡ []
unfolding entries_before
entries_none block width height level = refl

pub entries_more : (block : Region → List ℕ) (width height level n : ℕ) → entries_before block width height level (n + 1) ≡ entries_before block width height level n ++ block (block_region width height level n)
unfolding entries_before
entries_more block width height level n = flat_range_more (λ k. block (block_region width height level k)) n

pub entries_all : (block : Region → List ℕ) (width height level : ℕ) → entries_before block width height level (block_count width height level) ≡ level_entries block width height level
unfolding entries_before level_entries
entries_all block width height level = refl
