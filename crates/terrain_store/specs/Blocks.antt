-- A block of a store.
use Rattle.std.specs.Prelude.{◌≡◌, ℕ, ◌+◌, ◌<◌, true, List, ℤ}
use Rattle.clip_regions.specs.declared.region.Region.{Region}
use Rattle.clip_regions.specs.Regions.{is_empty}
use Rattle.terrain_model.specs.Terrain.{level_height}
use Rattle.block_heights.specs.declared.block.Kind.{Kind}
use Rattle.block_heights.specs.declared.block.Kind.TheVariants.{Outside, Plain, Words}
use Rattle.store_model.specs.Store.{region_of}
use Rattle.store_index.specs.Places.{IsBlockAt, HasNoBlock, IsBlockIn}
use Rattle.terrain_store.specs.Stores.{Stored}

-- the cells in the terrain of the block in column bx and row by of a level, and its bytes as they stand in the store
pub record IsStoredBlock (store : Stored) (level : ℕ) (bx by : ℤ) (inside : Region) (content : List ℕ) : Type 0 where
  pub k : ℕ
  pub at : IsBlockAt store.head level bx by k
  pub cells : inside ≡ region_of store.head level k
  pub stored : IsBlockIn store.head (level_height store.terrain) store.bytes level k content

-- what the store has of the block in column bx and row by of a level: heights as they are at the coarsest level, and
-- else a word of codes
abbrev pub HasBlock : Kind → Stored → ℕ → ℤ → ℤ → Region → Type 0
HasBlock Outside store level bx by inside = (is_empty inside ≡ true) × HasNoBlock store.head level bx by
HasBlock (Plain bytes) store level bx by inside =
    (level + 1 ≡ store.head.levels) × IsStoredBlock store level bx by inside bytes.now
HasBlock (Words bytes) store level bx by inside =
    (level + 1 < store.head.levels) × IsStoredBlock store level bx by inside bytes.now

-- the bytes of a block of a level, by whether it is the coarsest of so many
abbrev pub IsKindOf : Kind → ℕ → ℕ → List ℕ → Type 0
IsKindOf Outside level levels content = ⊥
IsKindOf (Plain bytes) level levels content = (level + 1 ≡ levels) × (bytes.now ≡ content)
IsKindOf (Words bytes) level levels content = (level + 1 < levels) × (bytes.now ≡ content)
