-- What is written of a block, over the heights of its level and of the next coarser one.
use Rattle.std.specs.Prelude.{ℕ, List, map, filter, ℤ}
use Rattle.std.specs.List.{flat_map, range_with_len}
use Rattle.clip_regions.specs.declared.region.Region.{Region}
use Rattle.clip_regions.specs.Regions.{columns, numbers_from}
use Rattle.four_point.specs.Steps.{code_of}
use Rattle.rice_residuals.specs.Word.{canonical_word}
use Rattle.store_model.specs.Sizes.{block_count, block_region}
use Rattle.store_model.specs.Blocks.{is_coded, coded_values, signed_bytes, plain_bytes}
use Rattle.store_model.specs.Format.{entry}

-- the code of a cell over the coarser heights
abbrev pub code_over : (ℤ → ℤ → ℤ) → (ℤ → ℤ → ℤ) → ℕ → ℤ → ℤ → ℤ
code_over coarser finer step i j = code_of coarser step i j (finer i j)

-- the codes of n cells of row j, from the column first on
unfoldable pub row_codes : (ℤ → ℤ → ℤ) → ℤ → ℤ → ℕ → List ℤ
row_codes code first j n = map (λ i. code i j) (filter (λ i. is_coded i j) (numbers_from first n))

-- the codes of the first n rows of a region
unfoldable pub rows_codes : (ℤ → ℤ → ℤ) → Region → ℕ → List ℤ
rows_codes code region n = flat_map (λ j. row_codes code region.x0 j (columns region)) (numbers_from region.y0 n)

-- the heights of n cells of row j, from the column first on, in two bytes each
unfoldable pub row_heights : (ℤ → ℤ → ℤ) → ℤ → ℤ → ℕ → List ℕ
row_heights heights first j n = flat_map (λ i. signed_bytes (heights i j)) (numbers_from first n)

-- the heights of the first n rows of a region
unfoldable pub rows_heights : (ℤ → ℤ → ℤ) → Region → ℕ → List ℕ
rows_heights heights region n =
    flat_map (λ j. row_heights heights region.x0 j (columns region)) (numbers_from region.y0 n)

-- a block of heights with its length before it
unfoldable pub plain_entry : (ℤ → ℤ → ℤ) → Region → List ℕ
plain_entry finer region = entry (plain_bytes finer region)

-- a block of codes with its length before it
unfoldable pub word_entry : (ℤ → ℤ → ℤ) → (ℤ → ℤ → ℤ) → ℕ → Region → List ℕ
word_entry coarser finer step region = entry (canonical_word (coded_values (code_over coarser finer step) region))

-- the blocks of a level, one behind another
unfoldable pub level_entries : (Region → List ℕ) → ℕ → ℕ → ℕ → List ℕ
level_entries block width height level =
    flat_map (λ k. block (block_region width height level k)) (range_with_len 0 (block_count width height level))
