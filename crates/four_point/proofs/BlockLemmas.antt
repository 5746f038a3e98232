-- Sums and predictions of four columns at once.
use Rattle.std.proofs.Common.{◌≡◌, ℕ, zero, suc, ℤ, pos, ◌*◌, ◌≤◌, ◌+ℤ◌, List, [], ◌∷◌, get_or, ap, ◌∙◌, arith}
use Rattle.std.specs.Int.{w16, w32}
use Rattle.std.proofs.lemmas.Int.{ints, to_z-of_z}
use mir.Val.{SFits, to_z, of_z}
use Rattle.clip_regions.specs.FloorDivision.{floor_div}
use Rattle.four_point.specs.Prediction.{weighted}
use Rattle.four_point.specs.Patches.{IsAtMost}
use Rattle.four_point.specs.Blocks.{over_16, over_256, AreSmall, AreSmallRows, AreAtMost, IsSmallLine, AreWeighted, odd_cells, middle_cells}
use Rattle.four_point.specs.declared.block.Four.{Four}
use Rattle.four_point.specs.declared.block.Line.{Line}
use Rattle.four_point.proofs.SumLemmas.{same, size_same}

-- a height of 16 bits as a number of 32
pub short_read : (z r : ℤ) → SFits w16 z → SFits w32 r → r ≡ to_z w16 (of_z w16 z) → to_z w32 (of_z w32 r) ≡ z
short_read z r fits fits' e = same r fits' ∙ e ∙ to_z-of_z w16 z fits

short_size : (z : ℤ) → SFits w16 z → IsAtMost 32768 z
short_size z fits = let f = fits.sfits in record { low = omega (arith, ints); high = omega (arith, ints) }

pub short_at_most : (z r : ℤ) → SFits w16 z → SFits w32 r → r ≡ to_z w16 (of_z w16 z) → IsAtMost 32768 (to_z w32 (of_z w32 r))
short_at_most z r fits fits' e = rw (short_read z r fits fits' e) (short_size z fits)

-- a weighted sum whose parts, of 16 or of 32 bits, are read again
pub sum_read_16 : (p q r s t : ℤ) → SFits w16 p → SFits w16 q → SFits w16 r → SFits w16 s → SFits w32 t → t ≡ weighted (to_z w16 (of_z w16 p)) (to_z w16 (of_z w16 q)) (to_z w16 (of_z w16 r)) (to_z w16 (of_z w16 s)) → to_z w32 (of_z w32 t) ≡ weighted p q r s
sum_read_16 p q r s t fp fq fr fs ft e = same t ft ∙ rw (to_z-of_z w16 p fp, to_z-of_z w16 q fq, to_z-of_z w16 r fr, to_z-of_z w16 s fs) at e

pub sum_read : (p q r s t : ℤ) → SFits w32 p → SFits w32 q → SFits w32 r → SFits w32 s → SFits w32 t → t ≡ weighted (to_z w32 (of_z w32 p)) (to_z w32 (of_z w32 q)) (to_z w32 (of_z w32 r)) (to_z w32 (of_z w32 s)) → to_z w32 (of_z w32 t) ≡ weighted p q r s
sum_read p q r s t fp fq fr fs ft e = same t ft ∙ rw (same p fp, same q fq, same r fr, same s fs) at e

pub sum_size : (n : ℕ) (p q r s t : ℤ) → SFits w32 p → SFits w32 q → SFits w32 r → SFits w32 s → SFits w32 t → IsAtMost n p → IsAtMost n q → IsAtMost n r → IsAtMost n s → ((m : ℕ) → IsAtMost m (to_z w32 (of_z w32 p)) → IsAtMost m (to_z w32 (of_z w32 q)) → IsAtMost m (to_z w32 (of_z w32 r)) → IsAtMost m (to_z w32 (of_z w32 s)) → IsAtMost (20 * m) t) → IsAtMost (20 * n) (to_z w32 (of_z w32 t))
sum_size n p q r s t fp fq fr fs ft ep eq er es size =
    size_same (20 * n) t ft (size n (size_same n p fp ep) (size_same n q fq eq) (size_same n r fr er) (size_same n s fs es))

-- a rounded sum that is read again
pub over_16_read : (sum r : ℤ) → SFits w32 sum → SFits w32 r → r ≡ floor_div (to_z w32 (of_z w32 sum) +ℤ pos 8) 16 → to_z w32 (of_z w32 r) ≡ over_16 sum
over_16_read sum r fits fits' e = same r fits' ∙ e ∙ ap over_16 (same sum fits)

pub over_256_read : (sum r : ℤ) → SFits w32 sum → SFits w32 r → r ≡ floor_div (to_z w32 (of_z w32 sum) +ℤ pos 128) 256 → to_z w32 (of_z w32 r) ≡ over_256 sum
over_256_read sum r fits fits' e = same r fits' ∙ e ∙ ap over_256 (same sum fits)

pub eight_same : (p q r s t u v w p' q' r' s' t' u' v' w' : ℤ) → p ≡ p' → q ≡ q' → r ≡ r' → s ≡ s' → t ≡ t' → u ≡ u' → v ≡ v' → w ≡ w' → ◌≡◌ {A = List ℤ} (p ∷ q ∷ r ∷ s ∷ t ∷ u ∷ v ∷ w ∷ []) (p' ∷ q' ∷ r' ∷ s' ∷ t' ∷ u' ∷ v' ∷ w' ∷ [])
eight_same p q r s t u v w p' q' r' s' t' u' v' w' e f g h i j k l = cc

-- what holds of eight numbers and of 0 holds of each of their list
pub of_eight : (P : ℤ → Type 0) (p q r s t u v w : ℤ) → P p → P q → P r → P s → P t → P u → P v → P w → P (pos 0) → (a : ℕ) → P (get_or (p ∷ q ∷ r ∷ s ∷ t ∷ u ∷ v ∷ w ∷ []) a (pos 0))
of_eight P p q r s t u v w hp hq hr hs ht hu hv hw h0 zero = hp
of_eight P p q r s t u v w hp hq hr hs ht hu hv hw h0 (suc zero) = hq
of_eight P p q r s t u v w hp hq hr hs ht hu hv hw h0 (suc (suc zero)) = hr
of_eight P p q r s t u v w hp hq hr hs ht hu hv hw h0 (suc (suc (suc zero))) = hs
of_eight P p q r s t u v w hp hq hr hs ht hu hv hw h0 (suc (suc (suc (suc zero)))) = ht
of_eight P p q r s t u v w hp hq hr hs ht hu hv hw h0 (suc (suc (suc (suc (suc zero))))) = hu
of_eight P p q r s t u v w hp hq hr hs ht hu hv hw h0 (suc (suc (suc (suc (suc (suc zero)))))) = hv
of_eight P p q r s t u v w hp hq hr hs ht hu hv hw h0 (suc (suc (suc (suc (suc (suc (suc zero))))))) = hw
of_eight P p q r s t u v w hp hq hr hs ht hu hv hw h0 (suc (suc (suc (suc (suc (suc (suc (suc n)))))))) = h0

pub small_zero : IsAtMost 51200 (pos 0)
small_zero = record { low = omega (arith, ints); high = omega (arith, ints) }

pub height_is_small : (z : ℤ) → IsAtMost 32768 z → IsAtMost 51200 z
height_is_small z size = let l = size.low in let h = size.high in record { low = omega (arith, ints); high = omega (arith, ints) }

-- ---- rows between two coarser ones
at_most_more : (m n : ℕ) (z : ℤ) → m ≤ n → IsAtMost m z → IsAtMost n z
at_most_more m n z l size = let a = size.low in let b = size.high in record { low = omega (arith, ints); high = omega (arith, ints) }

pub heights_at_most : (line : Line) → IsSmallLine line → AreAtMost 655360 line.heights
heights_at_most line small =
    let h = small.heights in
    record {
      p = at_most_more 32768 655360 line.heights.p (omega arith) h.p;
      q = at_most_more 32768 655360 line.heights.q (omega arith) h.q;
      r = at_most_more 32768 655360 line.heights.r (omega arith) h.r;
      s = at_most_more 32768 655360 line.heights.s (omega arith) h.s;
    }

pub middle_same : (a b c d : Line) (columns squares : Four) → AreWeighted a.heights b.heights c.heights d.heights columns → AreWeighted a.sums b.sums c.sums d.sums squares → odd_cells columns squares ≡ middle_cells a b c d
middle_same a b c d columns squares h s =
    eight_same _ _ _ _ _ _ _ _ _ _ _ _ _ _ _ _ (ap over_16 h.p) (ap over_256 s.p) (ap over_16 h.q) (ap over_256 s.q) (ap over_16 h.r) (ap over_256 s.r) (ap over_16 h.s) (ap over_256 s.s)

pub rows_of_eight : (p q r s t u v w : List ℤ) → AreSmall p → AreSmall q → AreSmall r → AreSmall s → AreSmall t → AreSmall u → AreSmall v → AreSmall w → AreSmallRows (p ∷ q ∷ r ∷ s ∷ t ∷ u ∷ v ∷ w ∷ [])
rows_of_eight p q r s t u v w hp hq hr hs ht hu hv hw zero = hp
rows_of_eight p q r s t u v w hp hq hr hs ht hu hv hw (suc zero) = hq
rows_of_eight p q r s t u v w hp hq hr hs ht hu hv hw (suc (suc zero)) = hr
rows_of_eight p q r s t u v w hp hq hr hs ht hu hv hw (suc (suc (suc zero))) = hs
rows_of_eight p q r s t u v w hp hq hr hs ht hu hv hw (suc (suc (suc (suc zero)))) = ht
rows_of_eight p q r s t u v w hp hq hr hs ht hu hv hw (suc (suc (suc (suc (suc zero))))) = hu
rows_of_eight p q r s t u v w hp hq hr hs ht hu hv hw (suc (suc (suc (suc (suc (suc zero)))))) = hv
rows_of_eight p q r s t u v w hp hq hr hs ht hu hv hw (suc (suc (suc (suc (suc (suc (suc zero))))))) = hw
rows_of_eight p q r s t u v w hp hq hr hs ht hu hv hw (suc (suc (suc (suc (suc (suc (suc (suc n)))))))) = λ a. small_zero
