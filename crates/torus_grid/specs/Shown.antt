-- What a contract sees of a place for a boxed tile.
use Rattle.std.specs.Prelude.{ℤ, List, Option, Some, None, Box}

-- the heights of the tile, where it is at home
abbrev pub shown : {Z : Type 0} → Option (Box (List ℤ) Z) → Option (List ℤ)
shown None = None
shown (Some tile) = Some tile.value
