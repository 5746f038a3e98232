-- Where the blocks of a store stand in its bytes. They are counted through all levels, from the coarsest.
use Rattle.std.specs.Prelude.{◌≡◌, ℕ, zero, suc, ◌+◌, ◌-◌, ◌^◌, ◌<◌, ◌≤◌, true, false, List, ◌++◌, length, take, drop, ℤ, pos, ◌+ℤ◌, ◌*ℤ◌}
use Rattle.byteorder.specs.Endian.{big_number}
use Rattle.clip_regions.specs.declared.region.Region.{Region}
use Rattle.clip_regions.specs.Regions.{contains}
use Rattle.store_model.specs.Sizes.{level_region, block_count, block_column, block_row}
use Rattle.store_model.specs.Format.{Head, entry}
use Rattle.store_model.specs.Store.{Levels, region_of, IsBlock, AreBlocks, IsFront}
use Rattle.store_index.specs.declared.sizes.Place.{Place}

-- how many blocks the n coarsest levels have
unfoldable pub blocks_before : Head → ℕ → ℕ
blocks_before head zero = 0
blocks_before head (suc n) = blocks_before head n + block_count head.width head.height (head.levels - suc n)

-- how many blocks a store has
abbrev pub block_total : Head → ℕ
block_total head = blocks_before head head.levels

-- the number of block k of a level among all blocks
abbrev pub number_of : Head → ℕ → ℕ → ℕ
number_of head level k = blocks_before head (head.levels - suc level) + k

-- the number of a block's bytes, which stands in two bytes at an offset
unfoldable pub length_at : List ℕ → ℕ → ℕ
length_at bytes at = big_number 2 (drop at bytes)

-- the bytes of the block whose number of bytes stands at an offset
unfoldable pub content_at : List ℕ → ℕ → List ℕ
content_at bytes at = take (length_at bytes at) (drop (at + 2) bytes)

-- the offset behind n blocks that stand from an offset on
unfoldable pub behind : List ℕ → ℕ → ℕ → ℕ
behind bytes at zero = at
behind bytes at (suc n) = behind bytes at n + 2 + length_at bytes (behind bytes at n)

-- n blocks stand whole in the bytes from an offset on
abbrev pub AreThere : List ℕ → ℕ → ℕ → Type 0
AreThere bytes at n = (m : ℕ) → m ≤ n → behind bytes at m ≤ length bytes

-- where the first block stands, behind the header
abbrev pub first_offset : Head → ℕ
first_offset head = 12 + head.version

-- the bytes of a block, by its number among all blocks
abbrev pub stored_block : Head → List ℕ → ℕ → List ℕ
stored_block head bytes number = content_at bytes (behind bytes (first_offset head) number)

-- the bytes of block k of a level stand in those of a store: behind the coarser levels and the level's blocks before
-- it, and behind their number
pub record IsBlockIn (head : Head) (heights : Levels) (bytes : List ℕ) (level k : ℕ) (content : List ℕ) : Type 0 where
  pub before : List ℕ
  pub blocks : List ℕ
  pub after : List ℕ
  pub front : IsFront head heights (head.levels - suc level) before
  pub done : AreBlocks head heights level k blocks
  pub short : length content < 2 ^ 16
  pub stands : IsBlock head heights level k content
  pub spelled : bytes ≡ before ++ (blocks ++ (entry content ++ after))

-- ---- blocks by their columns and rows
-- the cells of the block in column bx and row by, in the terrain or not
abbrev pub block_cells : ℤ → ℤ → Region
block_cells bx by = record {
  x0 = pos 8 *ℤ bx;
  y0 = pos 8 *ℤ by;
  x1 = pos 8 *ℤ bx +ℤ pos 7;
  y1 = pos 8 *ℤ by +ℤ pos 7;
}

-- block k of a level stands in column bx and row by
pub record IsBlockAt (head : Head) (level : ℕ) (bx by : ℤ) (k : ℕ) : Type 0 where
  pub in_store : level < head.levels
  pub below : k < block_count head.width head.height level
  pub column : bx ≡ pos (block_column head.width level k)
  pub row : by ≡ pos (block_row head.width level k)

-- the place is that of the block in column bx and row by of a level
pub record IsPlaceOf (head : Head) (level : ℕ) (bx by : ℤ) (place : Place) : Type 0 where
  pub k : ℕ
  pub at : IsBlockAt head level bx by k
  pub number : place.number ≡ number_of head level k
  pub cells : place.cells ≡ region_of head level k

-- the store has no such level, or no cell of the block in column bx and row by lies in the terrain
abbrev pub HasNoBlock : Head → ℕ → ℤ → ℤ → Type 0
HasNoBlock head level bx by =
    level < head.levels → (i j : ℤ) → contains (block_cells bx by) i j ≡ true
    → contains (level_region head.width head.height level) i j ≡ false
