-- The line of a file that is no store.
use Rattle.std.specs.Prelude.{ℕ, List, [], ◌++◌, codes, decimal}
use Rattle.std.specs.Fmt.{signed_decimal}
use Rattle.rice_residuals.specs.declared.fault.BlockFault.{BlockFault}
use Rattle.rice_residuals.specs.declared.fault.BlockFault.TheVariants as word
use Rattle.store_model.specs.declared.fault.Field.{Field}
use Rattle.store_model.specs.declared.fault.Field.TheVariants as field
use Rattle.store_model.specs.declared.fault.StoreFault.{StoreFault}
use Rattle.store_model.specs.declared.fault.StoreFault.TheVariants as store

-- a field of the header that is out of its range
abbrev pub field_line : Field → List ℕ
field_line field.Width = codes "fault: store BadHeader width\n"
field_line field.Height = codes "fault: store BadHeader height\n"
field_line field.Samples = codes "fault: store BadHeader samples\n"
field_line field.Levels = codes "fault: store BadHeader levels\n"
field_line field.Step = codes "fault: store BadHeader step\n"

-- what is wrong with the bytes of a block, and the bit where it is, or how many bytes are too many
abbrev pub block_name : BlockFault → List ℕ
block_name (word.CutShort _) = codes "CutShort"
block_name (word.LongForm _) = codes "LongForm"
block_name (word.TooWide _) = codes "TooWide"
block_name (word.BadPadding _) = codes "BadPadding"
block_name (word.Excess _) = codes "Excess"

abbrev pub block_number : BlockFault → ℕ
block_number (word.CutShort bit) = bit
block_number (word.LongForm bit) = bit
block_number (word.TooWide bit) = bit
block_number (word.BadPadding bit) = bit
block_number (word.Excess bytes) = bytes

-- the place of a block, the name of its fault and its number
abbrev pub block_words : ℕ → ℕ → ℕ → List ℕ → ℕ → List ℕ
block_words level bx by name number =
    codes "fault: store BadBlock "
    ++ (decimal level ++ (codes " " ++ (decimal bx ++ (codes " " ++ (decimal by
    ++ (codes " " ++ (name ++ (codes " " ++ (decimal number ++ codes "\n")))))))))

abbrev pub block_line : ℕ → ℕ → ℕ → BlockFault → List ℕ
block_line level bx by fault = block_words level bx by (block_name fault) (block_number fault)

-- the line of the first fault of a store. Want of memory has none
abbrev pub store_fault_line : StoreFault → List ℕ
store_fault_line store.BadMagic = codes "fault: store BadMagic\n"
store_fault_line (store.BadHeader which) = field_line which
store_fault_line (store.CutShort offset) = codes "fault: store CutShort " ++ (decimal offset ++ codes "\n")
store_fault_line (store.BadBlock level bx by fault) = block_line level bx by fault
store_fault_line (store.OutOfRange level i j value) =
    codes "fault: store OutOfRange "
    ++ (decimal level ++ (codes " " ++ (decimal i ++ (codes " " ++ (decimal j
    ++ (codes " " ++ (signed_decimal value ++ codes "\n")))))))
store_fault_line (store.Excess offset) = codes "fault: store Excess " ++ (decimal offset ++ codes "\n")
store_fault_line store.NoMemory = []
