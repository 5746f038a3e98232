-- How near a restored terrain is to the terrain.
use Rattle.std.specs.Prelude.{◌≡◌, ℕ, ◌+◌, ◌<◌, ◌≤◌, false, ℤ, pos}
use Rattle.clip_regions.specs.Regions.{contains}
use Rattle.terrain_model.specs.Terrain.{Terrain, IsTerrain, level_height}
use Rattle.four_point.specs.Steps.{IsStep}
use Rattle.four_point.specs.Laws.{IsWithinHalf}
use Rattle.store_model.specs.Sizes.{level_region, block_region}
use Rattle.store_model.specs.Blocks.{IsWordBlock}
use Rattle.store_model.specs.Restored.{restored_height, restored_terrain, canonical_block, canonical_store, head_of}
use Rattle.store_model.specs.Format.{IsVersion}
use Rattle.store_model.specs.Store.{IsStore}

-- outside the terrain the heights of every level are 0
abbrev pub LevelOutside : Type 0
LevelOutside =
    (terrain : Terrain) (level : ℕ) (i j : ℤ) → IsTerrain terrain
    → contains (level_region terrain.width terrain.height level) i j ≡ false → level_height terrain level i j ≡ pos 0

-- a restored height lies within half a step of the height
abbrev pub RestoredWithinHalf : Type 0
RestoredWithinHalf =
    (terrain : Terrain) (levels step level : ℕ) (i j : ℤ) → IsTerrain terrain → IsStep step → level < levels
    → IsWithinHalf step (level_height terrain level i j) (restored_height terrain levels step level i j)

-- by the step 1 a restored height is the height
abbrev pub RestoredByOne : Type 0
RestoredByOne =
    (terrain : Terrain) (levels level : ℕ) (i j : ℤ) → IsTerrain terrain → level < levels
    → restored_height terrain levels 1 level i j ≡ level_height terrain level i j

-- a canonical block of a level that isn't the coarsest stands for the restored heights
abbrev pub CanonicalWordBlock : Type 0
CanonicalWordBlock =
    (terrain : Terrain) (levels step level k : ℕ) → IsTerrain terrain → IsStep step → level + 1 < levels
    → IsWordBlock (restored_height terrain levels step (level + 1)) (restored_height terrain levels step level) step
    (block_region terrain.width terrain.height level k) (canonical_block terrain levels step level k)

-- the restored terrain is a terrain
abbrev pub RestoredIsTerrain : Type 0
RestoredIsTerrain =
    (terrain : Terrain) (levels step : ℕ) → IsTerrain terrain → IsTerrain (restored_terrain terrain levels step)

-- and its heights at every level are the restored ones
abbrev pub RestoredLevels : Type 0
RestoredLevels =
    (terrain : Terrain) (levels step level : ℕ) (i j : ℤ) → IsTerrain terrain → level < levels
    → level_height (restored_terrain terrain levels step) level i j ≡ restored_height terrain levels step level i j

-- a canonical store is a store of the restored terrain
abbrev pub CanonicalStore : Type 0
CanonicalStore =
    (version : ℕ) (terrain : Terrain) (levels step : ℕ) → IsTerrain terrain → 1 ≤ levels → levels ≤ 12
    → IsVersion version step
    → IsStore (head_of version terrain levels step) (restored_terrain terrain levels step)
    (canonical_store version terrain levels step)

-- by the step 1 the restored terrain is the terrain, so a canonical store is a store of the terrain itself
abbrev pub RestoredTerrainByOne : Type 0
RestoredTerrainByOne =
    (terrain : Terrain) (levels : ℕ) → IsTerrain terrain → 1 ≤ levels → restored_terrain terrain levels 1 ≡ terrain

abbrev pub CanonicalStoreByOne : Type 0
CanonicalStoreByOne =
    (version : ℕ) (terrain : Terrain) (levels : ℕ) → IsTerrain terrain → 1 ≤ levels → levels ≤ 12 → IsVersion version 1
    → IsStore (head_of version terrain levels 1) terrain (canonical_store version terrain levels 1)
