-- Why a tile is refused.
use Rattle.std.specs.Prelude.{◌≡◌, ℕ, length, List, None, ⊤}
use Rattle.terrain_model.specs.Tile.{side_of_length}
use Rattle.hgt_tiles.specs.declared.tiles.TileFault.{TileFault}
use Rattle.hgt_tiles.specs.declared.tiles.TileFault.TheVariants.{BadLength, NoMemory}

-- the bytes show the fault: their length is no tile's; want of memory is shown by nothing
abbrev pub HasCause : List ℕ → TileFault → Type 0
HasCause bytes (BadLength count) = (count ≡ length bytes) × (side_of_length count ≡ None)
HasCause bytes NoMemory = ⊤
