-- The terrain that a store with a step restores, and the canonical stores.
use Rattle.std.specs.Prelude.{ℕ, zero, suc, ◌+◌, ◌-◌, ◌*◌, ◌/◌, ◌%◌, ◌==◌, List, ◌++◌, map, ℤ, pos, if◌then◌else◌}
use Rattle.std.specs.List.{flat_map, range_with_len}
use Rattle.clip_regions.specs.Regions.{contains}
use Rattle.clip_regions.specs.FloorDivision.{floor_div}
use Rattle.terrain_model.specs.Terrain.{Terrain, level_height}
use Rattle.four_point.specs.Steps.{code_of, value_of, brought}
use Rattle.rice_residuals.specs.Word.{canonical_word}
use Rattle.store_model.specs.Sizes.{level_region, block_count, block_region}
use Rattle.store_model.specs.Blocks.{is_coded, coded_values, plain_bytes}
use Rattle.store_model.specs.Format.{Head, head_bytes, entry}

-- a height that is restored over the coarser heights: the value of its code, brought to 16 bits; a cell with even
-- coordinates takes the coarser height
unfoldable pub restored_cell : (ℤ → ℤ → ℤ) → ℕ → ℤ → ℤ → ℤ → ℤ
restored_cell coarser step i j height =
    if is_coded i j
    then brought (value_of coarser step i j (code_of coarser step i j height))
    else coarser (floor_div i 2) (floor_div j 2)

-- the restored heights of the level that has n coarser ones, of so many levels, and 0 outside the terrain
unfoldable pub restored_after : Terrain → ℕ → ℕ → ℕ → ℤ → ℤ → ℤ
restored_after terrain levels step zero i j = level_height terrain (levels - 1) i j
restored_after terrain levels step (suc n) i j =
    if contains (level_region terrain.width terrain.height (levels - suc (suc n))) i j
    then restored_cell (restored_after terrain levels step n) step i j (level_height terrain (levels - suc (suc n)) i j)
    else pos 0

-- the restored heights of a level
abbrev pub restored_height : Terrain → ℕ → ℕ → ℕ → ℤ → ℤ → ℤ
restored_height terrain levels step level = restored_after terrain levels step (levels - suc level)

-- the terrain of the restored heights
unfoldable pub restored_terrain : Terrain → ℕ → ℕ → Terrain
restored_terrain terrain levels step = record {
  width = terrain.width;
  height = terrain.height;
  table = map (λ n. restored_height terrain levels step 0 (pos (n % terrain.width)) (pos (n / terrain.width)))
      (range_with_len 0 (terrain.width * terrain.height));
}

-- block k of a level: its heights as they are at the coarsest level, and else the canonical word of its codes over the
-- restored coarser heights
unfoldable pub canonical_block : Terrain → ℕ → ℕ → ℕ → ℕ → List ℕ
canonical_block terrain levels step level k =
    if level + 1 == levels
    then plain_bytes (level_height terrain level) (block_region terrain.width terrain.height level k)
    else canonical_word
    (coded_values
    (λ i j. code_of (restored_height terrain levels step (level + 1)) step i j (level_height terrain level i j))
    (block_region terrain.width terrain.height level k))

-- the blocks of a level
unfoldable pub canonical_level : Terrain → ℕ → ℕ → ℕ → List ℕ
canonical_level terrain levels step level =
    flat_map (λ k. entry (canonical_block terrain levels step level k))
    (range_with_len 0 (block_count terrain.width terrain.height level))

-- the header of a terrain's store
abbrev pub head_of : ℕ → Terrain → ℕ → ℕ → Head
head_of version terrain levels step =
    record { version = version; width = terrain.width; height = terrain.height; levels = levels; step = step }

-- the canonical store of a terrain: the header, and the levels from the coarsest
unfoldable pub canonical_store : ℕ → Terrain → ℕ → ℕ → List ℕ
canonical_store version terrain levels step =
    head_bytes (head_of version terrain levels step)
    ++ flat_map (λ n. canonical_level terrain levels step (levels - suc n)) (range_with_len 0 levels)
