-- What a block says of a piece of its cells, by its kind.
use Rattle.std.specs.Prelude.{◌≡◌, ◌⊎◌, ℕ, ◌*◌, ◌<◌, ◌^◌, true, List, length, ℤ, pos, neg_ℤ, ◌+ℤ◌, ◌-ℤ◌, ◌*ℤ◌, ◌≤ℤ◌}
use Rattle.clip_regions.specs.declared.region.Region.{Region}
use Rattle.clip_regions.specs.Regions.{is_empty, area}
use Rattle.four_point.specs.Patches.{patch_height}
use Rattle.four_point.specs.declared.patch.Patch.{Patch}
use Rattle.rice_residuals.specs.Faults.{HasFault}
use Rattle.store_model.specs.Blocks.{IsCoding, code_count}
use Rattle.store_model.specs.Faults.{HasPlainFault}
use Rattle.block_heights.specs.declared.block.Kind.{Kind}
use Rattle.block_heights.specs.declared.block.Kind.TheVariants.{Outside, Plain, Words}
use Rattle.block_heights.specs.declared.block.PieceFault.{PieceFault}
use Rattle.block_heights.specs.declared.block.PieceFault.TheVariants.{BadBlock, OutOfRange}
use Rattle.block_heights.specs.Pieces.{within, plain_height, coded_height, IsPieceUpTo, AreNearUpTo, HasOut}

-- some cells of the block in column bx and row by
pub record IsPartOf (bx by : ℤ) (region : Region) : Type 0 where
  pub west : (pos 8 *ℤ bx) ≤ℤ region.x0
  pub across : region.x0 ≤ℤ region.x1
  pub east : region.x1 ≤ℤ (pos 8 *ℤ bx +ℤ pos 7)
  pub north : (pos 8 *ℤ by) ≤ℤ region.y0
  pub down : region.y0 ≤ℤ region.y1
  pub south : region.y1 ≤ℤ (pos 8 *ℤ by +ℤ pos 7)

-- cells of a block, or none
abbrev pub IsPart : ℤ → ℤ → Region → Type 0
IsPart bx by region = (is_empty region ≡ true) ⊎ IsPartOf bx by region

-- the block's cells lie between -2^28 and 2^28
pub record IsNearZero (bx by : ℤ) : Type 0 where
  pub west : neg_ℤ (pos (2 ^ 28)) ≤ℤ (pos 8 *ℤ bx)
  pub east : (pos 8 *ℤ bx +ℤ pos 7) ≤ℤ pos (2 ^ 28)
  pub north : neg_ℤ (pos (2 ^ 28)) ≤ℤ (pos 8 *ℤ by)
  pub south : (pos 8 *ℤ by +ℤ pos 7) ≤ℤ pos (2 ^ 28)

-- the patch is that of the block
pub record IsPatchOf (bx by : ℤ) (patch : Patch) : Type 0 where
  pub column : patch.i0 ≡ pos 4 *ℤ bx -ℤ pos 1
  pub row : patch.j0 ≡ pos 4 *ℤ by -ℤ pos 1

-- a block is outside exactly where none of its cells lies in the terrain; its bytes are few; words need the block's
-- patch
abbrev pub HasKind : Kind → ℤ → ℤ → Region → Patch → Type 0
HasKind Outside bx by inside patch = is_empty inside ≡ true
HasKind (Plain bytes) bx by inside patch = IsPartOf bx by inside × (length bytes.now < 65536)
HasKind (Words bytes) bx by inside patch = IsPartOf bx by inside × (length bytes.now < 65536) × IsPatchOf bx by patch

-- the bytes are a word of codes, by which the piece has its heights
pub record HasCodedHeights (coarser : ℤ → ℤ → ℤ) (step : ℕ) (inside cells : Region) (bytes : List ℕ)
    (out : List ℤ) : Type 0 where
  pub code : ℤ → ℤ → ℤ
  pub coding : IsCoding code inside bytes
  pub near : AreNearUpTo (length out) coarser step code inside cells
  pub heights : IsPieceUpTo (length out) (within inside (coded_height coarser step code)) cells out

-- the bytes are a word of codes, of which a cell of the piece has a value that is out of range
pub record HasCodedFault (coarser : ℤ → ℤ → ℤ) (step : ℕ) (inside cells : Region) (bytes : List ℕ) (n : ℕ)
    (fault : PieceFault) : Type 0 where
  pub code : ℤ → ℤ → ℤ
  pub coding : IsCoding code inside bytes
  pub out : HasOut coarser step code inside cells n fault

-- why a piece of n cells of a block of codes has no heights
abbrev pub HasWordFault : (ℤ → ℤ → ℤ) → ℕ → Region → Region → List ℕ → ℕ → PieceFault → Type 0
HasWordFault coarser step inside cells bytes n (BadBlock fault) = HasFault (code_count inside) bytes fault
HasWordFault coarser step inside cells bytes n (OutOfRange i j value) =
    HasCodedFault coarser step inside cells bytes n (OutOfRange i j value)

-- why a piece of a plain block of so many cells has no heights
abbrev pub HasPlainPieceFault : ℕ → List ℕ → PieceFault → Type 0
HasPlainPieceFault cells bytes (BadBlock fault) = HasPlainFault cells bytes fault
HasPlainPieceFault cells bytes (OutOfRange i j value) = ⊥

-- the heights of a piece of a block, row by row
abbrev pub HasHeights : Kind → Patch → ℕ → Region → Region → List ℤ → Type 0
HasHeights Outside patch step inside cells out = IsPieceUpTo (length out) (λ i j. pos 0) cells out
HasHeights (Plain bytes) patch step inside cells out =
    (length bytes.now ≡ 2 * area inside)
    × IsPieceUpTo (length out) (within inside (plain_height bytes.now inside)) cells out
HasHeights (Words bytes) patch step inside cells out =
    HasCodedHeights (patch_height patch) step inside cells bytes.now out

-- why a piece of a block, of n cells, has no heights
abbrev pub HasPieceFault : Kind → Patch → ℕ → Region → Region → ℕ → PieceFault → Type 0
HasPieceFault Outside patch step inside cells n fault = ⊥
HasPieceFault (Plain bytes) patch step inside cells n fault = HasPlainPieceFault (area inside) bytes.now fault
HasPieceFault (Words bytes) patch step inside cells n fault =
    HasWordFault (patch_height patch) step inside cells bytes.now n fault
