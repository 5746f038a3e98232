-- Signed numbers: a number that went to its bits and was read again, and how far one is above another.
use Rattle.std.proofs.Common.{◌≡◌, ℕ, ℤ, pos, ◌-ℤ◌, ◌≤ℤ◌, arith}
use Rattle.std.proofs.lemmas.Int.{ints}
use Rattle.std.specs.Int.{int_gap}
use Rattle.clip_regions.proofs.Sizes.{gap_is}

-- a natural number that is a difference is the gap
pub gap_from : (a b : ℤ) (n : ℕ) → a ≤ℤ b → pos n ≡ b -ℤ a → n ≡ int_gap a b
gap_from a b n h e =
    let g : pos (int_gap a b) ≡ b -ℤ a = gap_is a b h in
    omega (arith, ints)
