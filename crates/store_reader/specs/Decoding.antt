-- What a block's bytes are decoded to.
use Rattle.std.specs.Prelude.{◌≡◌, ℕ, Bool, true, false, List, length, ℤ, pos, ◌≤ℤ◌}
use Rattle.clip_regions.specs.declared.region.Region.{Region}
use Rattle.terrain_model.specs.Terrain.{level_height}
use Rattle.rice_residuals.specs.Faults.{HasFault}
use Rattle.block_heights.specs.Pieces.{IsPieceUpTo}
use Rattle.block_heights.specs.declared.block.PieceFault.{PieceFault}
use Rattle.block_heights.specs.declared.block.PieceFault.TheVariants as piece
use Rattle.store_model.specs.Blocks.{plain_bytes, code_count, IsWordBlock}
use Rattle.store_model.specs.Faults.{HasBlockFault, HasValueOut}
use Rattle.store_model.specs.declared.fault.StoreFault.{StoreFault}
use Rattle.store_model.specs.declared.fault.StoreFault.TheVariants.{BadMagic, BadHeader, CutShort, BadBlock, OutOfRange, Excess, NoMemory}
use Rattle.store_reader.specs.declared.sizes.Place.{Place}
use Rattle.store_reader.specs.declared.blocks.Source.{Source}
use Rattle.store_reader.specs.declared.blocks.Source.TheVariants.{Plain, Over}

-- the bytes are the heights of cells, of any heights that are these numbers there
abbrev pub IsPlainOf : Region → List ℕ → List ℤ → Type 0
IsPlainOf cells bytes out =
    (heights : ℤ → ℤ → ℤ) → IsPieceUpTo (length out) heights cells out → bytes ≡ plain_bytes heights cells

-- the bytes are a word of any heights that are these numbers there
abbrev pub IsCodedOf : (ℤ → ℤ → ℤ) → ℕ → Region → List ℕ → List ℤ → Type 0
IsCodedOf coarser step cells bytes out =
    (heights : ℤ → ℤ → ℤ) → IsPieceUpTo (length out) heights cells out → IsWordBlock coarser heights step cells bytes

abbrev pub IsDecoded : Source → ℕ → Region → List ℕ → List ℤ → Type 0
IsDecoded Plain step cells bytes out = IsPlainOf cells bytes out
IsDecoded (Over grid) step cells bytes out = IsCodedOf (level_height grid.now 0) step cells bytes out

-- why the bytes of a word have no heights
abbrev pub IsCodedFault : (ℤ → ℤ → ℤ) → ℕ → Region → List ℕ → PieceFault → Type 0
IsCodedFault coarser step cells bytes (piece.BadBlock fault) = HasFault (code_count cells) bytes fault
IsCodedFault coarser step cells bytes (piece.OutOfRange i j value) =
    HasValueOut coarser step cells bytes i j value × (pos 0 ≤ℤ i) × (pos 0 ≤ℤ j)

-- whether the blocks are heights as they are
abbrev pub is_plain : Source → Bool
is_plain Plain = true
is_plain (Over grid) = false

-- the value of a cell is out of range, where the blocks are words
abbrev pub IsOutBy : Source → ℕ → Region → List ℕ → ℤ → ℤ → ℤ → Type 0
IsOutBy Plain step cells bytes i j value = ⊥
IsOutBy (Over grid) step cells bytes i j value = HasValueOut (level_height grid.now 0) step cells bytes i j value

-- the fault of a store whose block at a place has these bytes
abbrev pub IsFaultIn : Source → ℕ → Place → List ℕ → StoreFault → Type 0
IsFaultIn source step place bytes BadMagic = ⊥
IsFaultIn source step place bytes (BadHeader field) = ⊥
IsFaultIn source step place bytes (CutShort offset) = ⊥
IsFaultIn source step place bytes (BadBlock level bx by fault) =
    (level ≡ place.level) × (bx ≡ place.bx) × (by ≡ place.by) × HasBlockFault (is_plain source) place.cells bytes fault
IsFaultIn source step place bytes (OutOfRange level i j value) =
    (level ≡ place.level) × IsOutBy source step place.cells bytes (pos i) (pos j) value
IsFaultIn source step place bytes (Excess offset) = ⊥
IsFaultIn source step place bytes NoMemory = ⊥
