-- Why bytes are no store: the first fault in the order of the file.
use Rattle.std.specs.Prelude.{◌≡◌, ◌≢◌, ◌⊎◌, ℕ, suc, ◌+◌, ◌-◌, ◌*◌, ◌%◌, ◌^◌, ◌<◌, ◌≤◌, ◌==◌, Bool, true, false, IsTrue, List, [], ◌∷◌, ◌++◌, length, take, ℤ, pos, ◌<ℤ◌}
use Rattle.clip_regions.specs.declared.region.Region.{Region}
use Rattle.clip_regions.specs.Regions.{contains, area}
use Rattle.four_point.specs.Steps.{value_of, IsNear}
use Rattle.rice_residuals.specs.Faults.{HasFault}
use Rattle.rice_residuals.specs.declared.fault.BlockFault.{BlockFault}
use Rattle.rice_residuals.specs.declared.fault.BlockFault.TheVariants as word
use Rattle.store_model.specs.declared.fault.Field.{Field}
use Rattle.store_model.specs.declared.fault.Field.TheVariants.{Width, Height, Samples, Levels as LevelCount, Step}
use Rattle.store_model.specs.declared.fault.StoreFault.{StoreFault}
use Rattle.store_model.specs.declared.fault.StoreFault.TheVariants.{BadMagic, BadHeader, CutShort, BadBlock, OutOfRange, Excess, NoMemory}
use Rattle.store_model.specs.Sizes.{block_count, block_column, block_row}
use Rattle.store_model.specs.Blocks.{code_count, IsCoding}
use Rattle.store_model.specs.Format.{Head, IsSoundHead, magic, head_bytes, entry}
use Rattle.store_model.specs.Store.{Levels, region_of, AreBlocks, IsFront}

-- ---- the header

-- the first bytes, up to four, begin as those of a version do
abbrev pub BeginsAs : ℕ → List ℕ → Type 0
BeginsAs version bytes = (more : List ℕ) × (take 4 bytes ++ more ≡ magic version)

-- the header of a version is cut short: it has 12 bytes and one more by each version
pub record IsCutHead (bytes : List ℕ) : Type 0 where
  pub version : ℕ
  pub known : (version ≡ 1) ⊎ (version ≡ 2)
  pub begins : BeginsAs version bytes
  pub cut : length bytes < 12 + version

-- the bytes begin with a whole header, sound or not
pub record OpensWithHead (head : Head) (bytes rest : List ℕ) : Type 0 where
  pub known : ((head.version ≡ 1) × (head.step ≡ 1)) ⊎ (head.version ≡ 2)
  pub wide : head.width < 2 ^ 32
  pub high : head.height < 2 ^ 32
  pub levels : head.levels < 256
  pub step : head.step < 256
  pub spelled : bytes ≡ head_bytes head ++ rest

-- a side that a terrain may have
abbrev pub IsSide : ℕ → Type 0
IsSide n = (1 ≤ n) × (n ≤ 2 ^ 26)

-- the first field of a header that is out of its range
abbrev pub IsBadField : Head → Field → Type 0
IsBadField head Width = ¬ IsSide head.width
IsBadField head Height = IsSide head.width × (¬ IsSide head.height)
IsBadField head Samples = IsSide head.width × IsSide head.height × (2 ^ 26 < head.width * head.height)
IsBadField head LevelCount =
    IsSide head.width × IsSide head.height × (head.width * head.height ≤ 2 ^ 26)
    × (¬ ((1 ≤ head.levels) × (head.levels ≤ 12)))
IsBadField head Step =
    IsSide head.width × IsSide head.height × (head.width * head.height ≤ 2 ^ 26)
    × ((1 ≤ head.levels) × (head.levels ≤ 12)) × (head.step % 2 ≡ 0)

-- ---- a block

-- the number of a block's bytes, or bytes that it announces, aren't all there
abbrev pub IsCutEntry : List ℕ → Type 0
IsCutEntry rest =
    (length rest < 2)
    ⊎ ((high low : ℕ) × (after : List ℕ) × (rest ≡ high ∷ low ∷ after) × (length after < 256 * high + low))

-- the fault of a plain block of so many cells: too few or too many bytes
abbrev pub HasPlainFault : ℕ → List ℕ → BlockFault → Type 0
HasPlainFault cells bytes (word.CutShort bit) = (bit ≡ 8 * length bytes) × (length bytes < 2 * cells)
HasPlainFault cells bytes (word.Excess n) = (0 < n) × (length bytes ≡ 2 * cells + n)
HasPlainFault cells bytes (word.LongForm bit) = ⊥
HasPlainFault cells bytes (word.TooWide bit) = ⊥
HasPlainFault cells bytes (word.BadPadding bit) = ⊥

-- the fault of a block's bytes by themselves
abbrev pub HasBlockFault : Bool → Region → List ℕ → BlockFault → Type 0
HasBlockFault true region bytes fault = HasPlainFault (area region) bytes fault
HasBlockFault false region bytes fault = HasFault (code_count region) bytes fault

-- the cell (a, b) comes before the cell (i, j), row by row
abbrev pub ComesBefore : ℤ → ℤ → ℤ → ℤ → Type 0
ComesBefore a b i j = (b <ℤ j) ⊎ ((b ≡ j) × (a <ℤ i))

-- the first cell of the region whose value isn't near a height of 16 bits, and this value
pub record IsFirstOut (coarser code : ℤ → ℤ → ℤ) (step : ℕ) (region : Region) (i j value : ℤ) : Type 0 where
  pub inside : IsTrue (contains region i j)
  pub value_is : value ≡ value_of coarser step i j (code i j)
  pub far : ¬ IsNear step value
  pub first :
      (a b : ℤ) → IsTrue (contains region a b) → ComesBefore a b i j
      → IsNear step (value_of coarser step a b (code a b))

-- the header is sound, the levels before this one and k blocks of it are whole, and what follows is so, over the
-- heights so far
pub record AtBlock (head : Head) (level k : ℕ) (bytes : List ℕ) (P : Levels → List ℕ → Type 0) : Type 0 where
  pub sound : IsSoundHead head
  pub level_below : level < head.levels
  pub block_below : k < block_count head.width head.height level
  pub heights : Levels
  pub before : List ℕ
  pub blocks : List ℕ
  pub rest : List ℕ
  pub front : IsFront head heights (head.levels - suc level) before
  pub done : AreBlocks head heights level k blocks
  pub spelled : bytes ≡ before ++ blocks ++ rest
  pub follows : P heights rest

-- what follows begins with a block whose bytes are so
pub record OpensWithBlock (rest : List ℕ) (P : List ℕ → Type 0) : Type 0 where
  pub content : List ℕ
  pub after : List ℕ
  pub short : length content < 2 ^ 16
  pub spelled : rest ≡ entry content ++ after
  pub follows : P content

-- ---- the whole

-- the bytes end within the header, or where a block ought to stand
pub record IsCutAtBlock (bytes : List ℕ) : Type 0 where
  pub head : Head
  pub level : ℕ
  pub k : ℕ
  pub at : AtBlock head level k bytes (λ heights rest. IsCutEntry rest)

pub record IsBadBlock (bytes : List ℕ) (level bx by : ℕ) (fault : BlockFault) : Type 0 where
  pub head : Head
  pub k : ℕ
  pub column : bx ≡ block_column head.width level k
  pub row : by ≡ block_row head.width level k
  pub at :
      AtBlock head level k bytes
      (λ heights rest.
      OpensWithBlock rest (λ content. HasBlockFault (level + 1 == head.levels) (region_of head level k) content fault))

-- a block that is a word of codes, with a value that is out of range
pub record HasValueOut (coarser : ℤ → ℤ → ℤ) (step : ℕ) (region : Region) (bytes : List ℕ)
    (i j value : ℤ) : Type 0 where
  pub code : ℤ → ℤ → ℤ
  pub coding : IsCoding code region bytes
  pub out : IsFirstOut coarser code step region i j value

pub record IsOutOfRange (bytes : List ℕ) (level i j : ℕ) (value : ℤ) : Type 0 where
  pub head : Head
  pub k : ℕ
  pub words : level + 1 < head.levels
  pub at :
      AtBlock head level k bytes
      (λ heights rest.
      OpensWithBlock rest
      (λ content. HasValueOut (heights (level + 1)) head.step (region_of head level k) content (pos i) (pos j) value))

pub record HasExcess (bytes : List ℕ) (offset : ℕ) : Type 0 where
  pub head : Head
  pub sound : IsSoundHead head
  pub heights : Levels
  pub before : List ℕ
  pub rest : List ℕ
  pub front : IsFront head heights head.levels before
  pub spelled : bytes ≡ before ++ rest
  pub some : rest ≢ []
  pub place : offset ≡ length before

-- the first fault of bytes that are no store
abbrev pub HasStoreFault : List ℕ → StoreFault → Type 0
HasStoreFault bytes BadMagic = (¬ BeginsAs 1 bytes) × (¬ BeginsAs 2 bytes)
HasStoreFault bytes (BadHeader field) =
    (head : Head) × (rest : List ℕ) × OpensWithHead head bytes rest × IsBadField head field
HasStoreFault bytes (CutShort offset) = (offset ≡ length bytes) × (IsCutHead bytes ⊎ IsCutAtBlock bytes)
HasStoreFault bytes (BadBlock level bx by fault) = IsBadBlock bytes level bx by fault
HasStoreFault bytes (OutOfRange level i j value) = IsOutOfRange bytes level i j value
HasStoreFault bytes (Excess offset) = HasExcess bytes offset
HasStoreFault bytes NoMemory = ⊥
