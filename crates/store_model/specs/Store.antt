-- Which bytes stand for a terrain: its store. Blocks stand level by level from the coarsest, each level row by row.
use Rattle.std.specs.Prelude.{◌≡◌, ℕ, zero, suc, ◌+◌, ◌-◌, ◌^◌, ◌<◌, Bool, true, false, ◌==◌, List, ◌++◌, length, ℤ, pos, FitsSigned}
use Rattle.std.specs.Int.{w16}
use Rattle.std.specs.List.{flat_map, range_with_len}
use Rattle.clip_regions.specs.declared.region.Region.{Region}
use Rattle.clip_regions.specs.Regions.{contains}
use Rattle.terrain_model.specs.Terrain.{Terrain, IsTerrain, level_height}
use Rattle.store_model.specs.Sizes.{level_region, block_count, block_region}
use Rattle.store_model.specs.Blocks.{plain_bytes, IsWordBlock}
use Rattle.store_model.specs.Format.{Head, IsSoundHead, head_bytes, entry}

-- the heights of each level, by level, column and row
abbrev pub Levels : Type 0
Levels = ℕ → ℤ → ℤ → ℤ

-- the cells in the terrain of block k of a level
abbrev pub region_of : Head → ℕ → ℕ → Region
region_of head level k = block_region head.width head.height level k

-- the block's bytes stand for its heights: at the coarsest level, and at the others over the next coarser one
abbrev pub IsBlockOf : Bool → Head → Levels → ℕ → ℕ → List ℕ → Type 0
IsBlockOf true head heights level k bytes = bytes ≡ plain_bytes (heights level) (region_of head level k)
IsBlockOf false head heights level k bytes =
    IsWordBlock (heights (level + 1)) (heights level) head.step (region_of head level k) bytes

abbrev pub IsBlock : Head → Levels → ℕ → ℕ → List ℕ → Type 0
IsBlock head heights level k bytes = IsBlockOf (level + 1 == head.levels) head heights level k bytes

-- the bytes are those of the first n blocks of a level
pub record AreBlocks (head : Head) (heights : Levels) (level n : ℕ) (bytes : List ℕ) : Type 0 where
  pub content : ℕ → List ℕ
  pub short : (k : ℕ) → k < n → length (content k) < 2 ^ 16
  pub blocks : (k : ℕ) → k < n → IsBlock head heights level k (content k)
  pub spelled : bytes ≡ flat_map (λ k. entry (content k)) (range_with_len 0 n)

-- the bytes are those of a whole level; its heights have 16 bits, and outside the terrain they are 0
pub record IsLevel (head : Head) (heights : Levels) (level : ℕ) (bytes : List ℕ) : Type 0 where
  pub all : AreBlocks head heights level (block_count head.width head.height level) bytes
  pub short : (i j : ℤ) → FitsSigned w16 (heights level i j)
  pub outside : (i j : ℤ) → contains (level_region head.width head.height level) i j ≡ false → heights level i j ≡ pos 0

-- the bytes are those of the header and the n coarsest levels
abbrev pub IsFront : Head → Levels → ℕ → List ℕ → Type 0
IsFront head heights zero bytes = bytes ≡ head_bytes head
IsFront head heights (suc n) bytes =
    (before : List ℕ) × (level : List ℕ) × IsFront head heights n before
    × IsLevel head heights (head.levels - suc n) level × (bytes ≡ before ++ level)

-- the bytes stand for the terrain, with so many levels, by this version and step
pub record IsStore (head : Head) (terrain : Terrain) (bytes : List ℕ) : Type 0 where
  pub sound : IsSoundHead head
  pub sound_terrain : IsTerrain terrain
  pub same_width : head.width ≡ terrain.width
  pub same_height : head.height ≡ terrain.height
  pub whole : IsFront head (level_height terrain) head.levels bytes
