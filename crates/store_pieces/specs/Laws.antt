-- What decoding a block of a store gives.
use Rattle.std.specs.Prelude.{◌≡◌, ℕ, ◌+◌, ◌<◌, true, List, length, ℤ}
use Rattle.clip_regions.specs.declared.region.Region.{Region}
use Rattle.clip_regions.specs.Regions.{contains, area}
use Rattle.terrain_model.specs.Terrain.{level_height}
use Rattle.four_point.specs.declared.patch.Patch.{Patch}
use Rattle.four_point.specs.Patches.{patch_height}
use Rattle.four_point.specs.Prediction.{prediction}
use Rattle.block_heights.specs.declared.block.Kind.{Kind}
use Rattle.block_heights.specs.declared.block.PieceFault.{PieceFault}
use Rattle.block_heights.specs.Pieces.{IsPieceUpTo}
use Rattle.block_heights.specs.Decoded.{IsPart, HasHeights, HasPieceFault}
use Rattle.store_model.specs.Sizes.{level_region}
use Rattle.terrain_store.specs.Stores.{Stored, IsStored}
use Rattle.terrain_store.specs.Blocks.{HasBlock}

-- over the cells of a piece that lie in the terrain, the patch predicts as the next coarser level does, if there is one
abbrev pub Predicts : Patch → Stored → ℕ → Region → Type 0
Predicts patch store level cells =
    (i j : ℤ) → level + 1 < store.head.levels
    → contains (level_region store.head.width store.head.height level) i j ≡ true → contains cells i j ≡ true
    → prediction (patch_height patch) i j ≡ prediction (level_height store.terrain (level + 1)) i j

-- what the store has of a block, some cells of the block, and a patch that predicts those in the terrain as the next
-- coarser level does
pub record IsPieceOf (store : Stored) (kind : Kind) (level : ℕ) (bx by : ℤ) (inside cells : Region)
    (patch : Patch) : Type 0 where
  pub stands : IsStored store
  pub in_store : level < store.head.levels
  pub block : HasBlock kind store level bx by inside
  pub part : IsPart bx by cells
  pub predicts : Predicts patch store level cells

-- the heights that are decoded are those of the level
abbrev pub PiecesAreHeights : Type 0
PiecesAreHeights =
    (store : Stored) (kind : Kind) (level : ℕ) (bx by : ℤ) (inside cells : Region) (patch : Patch) (out : List ℤ)
    → IsPieceOf store kind level bx by inside cells patch → length out ≡ area cells
    → HasHeights kind patch store.head.step inside cells out
    → IsPieceUpTo (length out) (level_height store.terrain level) cells out

-- decoding refuses none
abbrev pub PiecesHaveNoFault : Type 0
PiecesHaveNoFault =
    (store : Stored) (kind : Kind) (level : ℕ) (bx by : ℤ) (inside cells : Region) (patch : Patch) (n : ℕ)
    (fault : PieceFault)
    → IsPieceOf store kind level bx by inside cells patch → n ≡ area cells
    → HasPieceFault kind patch store.head.step inside cells n fault → ⊥
