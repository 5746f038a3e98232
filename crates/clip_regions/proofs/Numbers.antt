-- A signed number that went to its bits and was read again.
use Rattle.std.proofs.Common.{◌≡◌, ℤ}
use Rattle.std.proofs.lemmas.Int.{to_z-of_z}
use mir.Syntax.{w32}
use mir.Val.{SFits, of_z, to_z}

-- it is the number, where that fits
pub read_back : (z : ℤ) → SFits w32 z → to_z w32 (of_z w32 z) ≡ z
read_back z fits = to_z-of_z w32 z fits
