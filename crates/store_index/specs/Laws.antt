-- That the blocks of a store are found by counting.
use Rattle.std.specs.Prelude.{ℕ, ◌<◌, List}
use Rattle.terrain_model.specs.Terrain.{Terrain, level_height}
use Rattle.store_model.specs.Sizes.{block_count}
use Rattle.store_model.specs.Format.{Head}
use Rattle.store_model.specs.Store.{IsStore}
use Rattle.store_index.specs.Places.{block_total, number_of, AreThere, first_offset, stored_block, IsBlockIn}

-- all blocks of a store stand whole in its bytes
abbrev pub BlocksAreThere : Type 0
BlocksAreThere =
    (head : Head) (terrain : Terrain) (bytes : List ℕ) → IsStore head terrain bytes
    → AreThere bytes (first_offset head) (block_total head)

-- what stands at a block's number is that block
abbrev pub BlocksAreFound : Type 0
BlocksAreFound =
    (head : Head) (terrain : Terrain) (bytes : List ℕ) (level k : ℕ) → IsStore head terrain bytes → level < head.levels
    → k < block_count head.width head.height level
    → IsBlockIn head (level_height terrain) bytes level k (stored_block head bytes (number_of head level k))

-- a block's number is below that of all blocks
abbrev pub NumbersAreBelow : Type 0
NumbersAreBelow =
    (head : Head) (level k : ℕ) → level < head.levels → k < block_count head.width head.height level
    → number_of head level k < block_total head
