-- What was read of a level, and where reading ends with a fault.
use Rattle.std.specs.Prelude.{◌≡◌, ◌⊎◌, ℕ, zero, suc, ◌+◌, ◌-◌, ◌*◌, ◌^◌, ◌<◌, ◌≤◌, ◌==◌, min, false, List, ◌++◌, length, drop, take, slice_index_or, ℤ, pos, Result, Ok, Err}
use Rattle.std.specs.List.{flat_map, range_with_len}
use Rattle.clip_regions.specs.Regions.{contains, area}
use Rattle.terrain_model.specs.Terrain.{Terrain, IsTerrain, level_height}
use Rattle.block_heights.specs.Pieces.{IsPieceUpTo}
use Rattle.store_model.specs.declared.fault.StoreFault.{StoreFault}
use Rattle.store_model.specs.declared.fault.StoreFault.TheVariants.{NoMemory}
use Rattle.store_model.specs.Sizes.{cells_on, blocks_on, block_count, block_row}
use Rattle.store_model.specs.Format.{Head, entry}
use Rattle.store_model.specs.Store.{Levels, region_of, IsFront}
use Rattle.store_laws.specs.Places.{HasFaultAt}
use Rattle.store_reader.specs.declared.header.Header.{Header}
use Rattle.store_reader.specs.declared.blocks.Source.{Source}
use Rattle.store_reader.specs.declared.blocks.Source.TheVariants.{Plain, Over}
use Rattle.store_reader.specs.declared.level.Reading.{Reading}
use Rattle.store_reader.specs.declared.level.Band.{Band}
use Rattle.store_reader.specs.Headers.{head_of, IsReadable}
use Rattle.store_reader.specs.Places.{cell_heights}
use Rattle.store_reader.specs.Tables.{behind_cells}
use Rattle.store_reader.specs.Decoding.{IsDecoded, is_plain}

-- the coarser heights that blocks stand over
abbrev pub coarser_of : Source → ℤ → ℤ → ℤ
coarser_of Plain i j = pos 0
coarser_of (Over grid) i j = level_height grid.now 0 i j

-- a level of a store with a sound header, whose blocks are plain exactly at the coarsest level
pub record IsReading (header : Header) (level : ℕ) (source : Source) : Type 0 where
  pub readable : IsReadable header
  pub below : level < header.levels
  pub kind : is_plain source ≡ (level + 1 == header.levels)

-- the offset behind the entry at an offset, by the two bytes of its length
abbrev pub next_in : List ℕ → ℕ → ℕ
next_in bytes at = at + (2 + (256 * slice_index_or bytes at 0 + slice_index_or bytes (at + 1) 0))

-- the offset behind n entries, one after another, from an offset on
abbrev pub behind : List ℕ → ℕ → ℕ → ℕ
behind bytes start zero = start
behind bytes start (suc n) = next_in bytes (behind bytes start n)

-- block k of a level, from one offset to the next, was read into the table of the level
pub record BlockRead (head : Head) (source : Source) (level k : ℕ) (bytes : List ℕ) (at next : ℕ)
    (old new : List ℤ) : Type 0 where
  pub content : List ℕ
  pub out : List ℤ
  pub short : length content < 2 ^ 16
  pub ends : next ≤ length bytes
  pub place : next ≡ next_in bytes at
  pub spelled : drop at bytes ≡ entry content ++ drop next bytes
  pub size : length out ≡ area (region_of head level k)
  pub decoded : IsDecoded source head.step (region_of head level k) content out
  pub piece : IsPieceUpTo (length out) (cell_heights head level new) (region_of head level k) out
  pub kept :
      (i j : ℤ) → contains (region_of head level k) i j ≡ false
      → cell_heights head level new i j ≡ cell_heights head level old i j

-- the blocks of a level from one number up to another, from one offset to another, were read into its table
pub record BlocksRead (head : Head) (source : Source) (level first k : ℕ) (bytes : List ℕ) (start at : ℕ)
    (table : List ℤ) : Type 0 where
  pub content : ℕ → List ℕ
  pub out : ℕ → List ℤ
  pub ends : at ≤ length bytes
  pub place : at ≡ behind bytes start (k - first)
  pub short : (m : ℕ) → first ≤ m → m < k → length (content m) < 2 ^ 16
  pub sizes : (m : ℕ) → first ≤ m → m < k → length (out m) ≡ area (region_of head level m)
  pub decoded :
      (m : ℕ) → first ≤ m → m < k → IsDecoded source head.step (region_of head level m) (content m) (out m)
  pub pieces :
      (m : ℕ) → first ≤ m → m < k
      → IsPieceUpTo (length (out m)) (cell_heights head level table) (region_of head level m) (out m)
  pub spelled :
      drop start bytes ≡ flat_map (λ m. entry (content m)) (range_with_len first (k - first)) ++ drop at bytes

-- some blocks of a level were read, from a number on, and then comes the fault
pub record HasLevelFault (head : Head) (source : Source) (level first : ℕ) (bytes : List ℕ) (start : ℕ)
    (fault : StoreFault) : Type 0 where
  pub k : ℕ
  pub from : first ≤ k
  pub below : k < block_count head.width head.height level
  pub at : ℕ
  pub table : List ℤ
  pub read : BlocksRead head source level first k bytes start at table
  pub follows : HasFaultAt head (coarser_of source) level k bytes (drop at bytes) fault

-- a whole level was read into a grid of its cells
pub record LevelRead (head : Head) (source : Source) (level : ℕ) (bytes : List ℕ) (start at : ℕ)
    (grid : Terrain) : Type 0 where
  pub read : BlocksRead head source level 0 (block_count head.width head.height level) bytes start at grid.table
  pub columns : grid.width ≡ cells_on head.width level
  pub rows : grid.height ≡ cells_on head.height level
  pub terrain : IsTerrain grid

-- the fault of a level, or want of memory
abbrev pub FailsLevel : Head → Source → ℕ → List ℕ → ℕ → StoreFault → Type 0
FailsLevel head source level bytes start fault = (fault ≡ NoMemory) ⊎ HasLevelFault head source level 0 bytes start fault

-- the n coarsest levels, up to an offset, were read, and the last of them is in a grid of its cells
pub record LevelsRead (head : Head) (n : ℕ) (bytes : List ℕ) (at : ℕ) (grid : Terrain) : Type 0 where
  pub heights : Levels
  pub ends : at ≤ length bytes
  pub front : IsFront head heights n (take at bytes)
  pub last : (i j : ℤ) → heights (head.levels - n) i j ≡ level_height grid 0 i j
  pub columns : grid.width ≡ cells_on head.width (head.levels - n)
  pub rows : grid.height ≡ cells_on head.height (head.levels - n)
  pub terrain : IsTerrain grid

-- ---- the same by what is known of a level that is being read
-- how many cells the level has
abbrev pub cell_count : Reading → ℕ
cell_count reading = cells_on reading.header.width reading.level * cells_on reading.header.height reading.level

-- how many blocks it has
abbrev pub blocks_in : Reading → ℕ
blocks_in reading = block_count reading.header.width reading.header.height reading.level

-- the row of blocks in which block k stands, how many blocks stand above a row, and how many cells
abbrev pub row_in : Reading → ℕ → ℕ
row_in reading k = block_row reading.header.width reading.level k

abbrev pub blocks_above : Reading → ℕ → ℕ
blocks_above reading row = blocks_on (cells_on reading.header.width reading.level) * row

abbrev pub cells_above : Reading → ℕ → ℕ
cells_above reading row =
    min (8 * row) (cells_on reading.header.height reading.level) * cells_on reading.header.width reading.level

-- rows of the level's blocks, whose cells are so many
pub record IsBand (reading : Reading) (band : Band) (cells : ℕ) : Type 0 where
  pub some : band.from < band.to
  pub down : band.to ≤ blocks_on (cells_on reading.header.height reading.level)
  pub begun : band.start ≤ length reading.bytes.now
  pub room : cells_above reading band.from + cells ≡ cells_above reading band.to

abbrev pub MayRead : Reading → Band → ℕ → Type 0
MayRead reading band cells = IsReading reading.header reading.level reading.source × IsBand reading band cells

-- the band is the whole level, whose first block's length stands at an offset
pub record IsWhole (reading : Reading) (band : Band) (start : ℕ) : Type 0 where
  pub all : IsBand reading band (cell_count reading)
  pub first : blocks_above reading band.from ≡ 0
  pub above : cells_above reading band.from ≡ 0
  pub last : blocks_above reading band.to ≡ blocks_in reading
  pub begins : band.start ≡ start

-- block k was read into a table of the cells from a row of blocks on
abbrev pub ReadsBlock : Reading → ℕ → ℕ → ℕ → ℕ → List ℤ → List ℤ → Type 0
ReadsBlock reading row k at next old new =
    BlockRead (head_of reading.header) reading.source reading.level k reading.bytes.now at next
    (behind_cells (cells_above reading row) old) (behind_cells (cells_above reading row) new)

abbrev pub FailsAt : Reading → ℕ → ℕ → StoreFault → Type 0
FailsAt reading k at fault =
    HasFaultAt (head_of reading.header) (coarser_of reading.source) reading.level k reading.bytes.now
    (drop at reading.bytes.now) fault

-- the blocks of a band, up to an offset, were read into a table of its cells, or have the fault
abbrev pub ReadsBand : Reading → Band → ℕ → List ℤ → Type 0
ReadsBand reading band at table =
    BlocksRead (head_of reading.header) reading.source reading.level
    (blocks_above reading band.from) (blocks_above reading band.to) reading.bytes.now band.start at
    (behind_cells (cells_above reading band.from) table)

abbrev pub FailsBand : Reading → Band → StoreFault → Type 0
FailsBand reading band fault =
    HasLevelFault (head_of reading.header) reading.source reading.level (blocks_above reading band.from)
    reading.bytes.now band.start fault

abbrev pub EndsBand : Reading → Band → Result ℕ StoreFault → List ℤ → Type 0
EndsBand reading band (Ok at) table = ReadsBand reading band at table
EndsBand reading band (Err fault) table = FailsBand reading band fault

-- two bands are a band cut in two, and the second begins behind the blocks of the first
pub record AreHalves (reading : Reading) (band front back : Band) : Type 0 where
  pub begins : front.from ≡ band.from
  pub meets : back.from ≡ front.to
  pub ends : back.to ≡ band.to
  pub some : front.from < front.to
  pub more : back.from < back.to
  pub start : front.start ≡ band.start
  pub next :
      back.start
      ≡ behind reading.bytes.now front.start (blocks_above reading front.to - blocks_above reading front.from)
  pub inside : back.start ≤ length reading.bytes.now

abbrev pub ReadsBlocks : Reading → ℕ → ℕ → List ℤ → Type 0
ReadsBlocks reading start at table =
    BlocksRead (head_of reading.header) reading.source reading.level 0 (blocks_in reading) reading.bytes.now start at
    table

abbrev pub FailsFrom : Reading → ℕ → StoreFault → Type 0
FailsFrom reading start fault =
    HasLevelFault (head_of reading.header) reading.source reading.level 0 reading.bytes.now start fault

abbrev pub ReadsLevel : Reading → ℕ → ℕ → Terrain → Type 0
ReadsLevel reading start at grid =
    LevelRead (head_of reading.header) reading.source reading.level reading.bytes.now start at grid
