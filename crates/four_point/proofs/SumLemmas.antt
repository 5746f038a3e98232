-- Sums of four parts, by the values of the parts.
use Rattle.std.proofs.Common.{◌≡◌, ℕ, ℤ, pos, negsuc, nat_abs, ◌+ℤ◌, ◌-ℤ◌, ◌≤ℤ◌, List, [], get_or, arith}
use Rattle.std.specs.Int.{w32}
use Rattle.std.proofs.lemmas.Int.{ints, to_z-of_z}
use mir.Val.{SFits, to_z, of_z}
use Rattle.four_point.specs.Prediction.{weighted, row_sum, column_sum, square_sum}
use Rattle.four_point.specs.Patches.{IsAtMost, table_height, patch_height}
use Rattle.four_point.specs.declared.patch.Patch.{Patch}

-- a number of 32 bits is the same when its bits are read again
pub same : (z : ℤ) → SFits w32 z → to_z w32 (of_z w32 z) ≡ z
same z fits = to_z-of_z w32 z fits

-- the same bound holds of the number whose bits are read again
pub size_same : (n : ℕ) (z : ℤ) → SFits w32 z → IsAtMost n z → IsAtMost n (to_z w32 (of_z w32 z))
size_same n z fits size = rw (same z fits) size

pub row_of_four : (coarser : ℤ → ℤ → ℤ) (a b p q r s total : ℤ) → p ≡ coarser (a -ℤ pos 1) b → q ≡ coarser a b → r ≡ coarser (a +ℤ pos 1) b → s ≡ coarser (a +ℤ pos 2) b → total ≡ weighted p q r s → total ≡ row_sum coarser a b
unfolding row_sum
row_of_four coarser a b p q r s total e f g h sum = cc

pub column_of_four : (coarser : ℤ → ℤ → ℤ) (a b p q r s total : ℤ) → p ≡ coarser a (b -ℤ pos 1) → q ≡ coarser a b → r ≡ coarser a (b +ℤ pos 1) → s ≡ coarser a (b +ℤ pos 2) → total ≡ weighted p q r s → total ≡ column_sum coarser a b
unfolding column_sum
column_of_four coarser a b p q r s total e f g h sum = cc

pub square_of_four : (coarser : ℤ → ℤ → ℤ) (a b p q r s total : ℤ) → p ≡ row_sum coarser a (b -ℤ pos 1) → q ≡ row_sum coarser a b → r ≡ row_sum coarser a (b +ℤ pos 1) → s ≡ row_sum coarser a (b +ℤ pos 2) → total ≡ weighted p q r s → total ≡ square_sum coarser a b
unfolding square_sum
square_of_four coarser a b p q r s total e f g h sum = cc

table_inside : (rows : List (List ℤ)) (a b height : ℤ) → pos 0 ≤ℤ a → pos 0 ≤ℤ b → height ≡ get_or (get_or rows (nat_abs b) []) (nat_abs a) (pos 0) → height ≡ table_height rows a b
unfolding table_height
table_inside rows (pos a) (pos b) height a_low b_low read = read
table_inside rows (pos a) (negsuc b) height a_low b_low read = absurd (omega (arith, ints))
table_inside rows (negsuc a) b height a_low b_low read = absurd (omega (arith, ints))

-- a height that a patch has
pub height_inside : (patch : Patch) (a b height : ℤ) → pos 0 ≤ℤ (a -ℤ patch.i0) → pos 0 ≤ℤ (b -ℤ patch.j0) → height ≡ get_or (get_or patch.h (nat_abs (b -ℤ patch.j0)) []) (nat_abs (a -ℤ patch.i0)) (pos 0) → height ≡ patch_height patch a b
unfolding patch_height
height_inside patch a b height a_low b_low read = table_inside patch.h (a -ℤ patch.i0) (b -ℤ patch.j0) height a_low b_low read
