-- Where the centre of a window lies.
use Rattle.std.proofs.Common.{◌≡◌, ℕ, ◌*◌, max, ◌⊎◌, ℤ, pos, negsuc, neg_ℤ, ◌+ℤ◌, ◌-ℤ◌, ◌*ℤ◌, ◌≤ℤ◌, ◌<ℤ◌, ap, sym, ◌∙◌, subst, inl, inr, arith}
use Rattle.std.proofs.lemmas.Int.{ints, clamps}
use Rattle.std.specs.Int.{int_max}
use mathlib.Core.Path.{ap₂}
use mir.Syntax.{w32}
use mir.Val.{SFits, of_z, to_z}
use Rattle.level_frame.proofs.Numbers.{sum_times, twice_times}
use Rattle.clip_regions.proofs.Numbers.{read_back}

unit_times : (p : ℕ) → pos 1 *ℤ pos p ≡ pos p
unit_times p = omega (arith, ints)

-- the centre for the quotient q, in samples: p is the spacing of the level
pub center_in_samples : (q : ℤ) (p : ℕ) → (pos 2 *ℤ q +ℤ pos 1) *ℤ pos p ≡ pos (2 * p) *ℤ q +ℤ pos p
center_in_samples q p =
    sum_times (pos 2 *ℤ q) (pos 1) p ∙ ap₂ (λ (a b : ℤ). a +ℤ b) (twice_times q p) (unit_times p)

west_of : (v a : ℤ) (p : ℕ) → v <ℤ (a +ℤ pos (2 * p)) → (v -ℤ pos p) ≤ℤ (a +ℤ pos p)
west_of v a p h = omega (arith, ints)

east_of : (v a : ℤ) (p : ℕ) → a ≤ℤ v → (a +ℤ pos p) ≤ℤ (v +ℤ pos p)
east_of v a p h = omega (arith, ints)

larger : (w : ℕ) → int_max (pos w) (pos 2) ≡ pos (max 2 w)
larger w = omega (arith, ints, clamps)

-- what a call says of the quotient of v by b
pub record Quotient (v b q : ℤ) : Type 0 where
  pub below : (b *ℤ q) ≤ℤ v
  pub above : v <ℤ (b *ℤ q +ℤ b)
  pub at_zero_or_more : pos 0 ≤ℤ v → (pos 0 ≤ℤ q) × (q ≤ℤ v)
  pub below_zero : v <ℤ pos 0 → (v ≤ℤ q) × (q <ℤ pos 0)

pub moved : (v v' b b' q : ℤ) → v' ≡ v → b' ≡ b → Quotient v' b' q → Quotient v b q
moved v v' b b' q e f h =
    subst (λ (x : ℤ). Quotient x b q) e (subst (λ (x : ℤ). Quotient v' x q) f h)

-- the quotient lies no farther from zero than v
pub record IsNearZero (q : ℤ) : Type 0 where
  pub low : neg_ℤ (pos 4194304) ≤ℤ q
  pub high : q ≤ℤ pos 4194304

near_at : (v b q : ℤ) → neg_ℤ (pos 4194304) ≤ℤ v → v ≤ℤ pos 4194304 → Quotient v b q → (pos 0 ≤ℤ v) ⊎ (v <ℤ pos 0) → IsNearZero q
near_at v b q l h d (inl s) = let p : (pos 0 ≤ℤ q) × (q ≤ℤ v) = d.at_zero_or_more s in record { low = omega (arith, ints); high = omega (arith, ints) }
near_at v b q l h d (inr s) = let p : (v ≤ℤ q) × (q <ℤ pos 0) = d.below_zero s in record { low = omega (arith, ints); high = omega (arith, ints) }

sign : (v : ℤ) → (pos 0 ≤ℤ v) ⊎ (v <ℤ pos 0)
sign (pos n) = inl (omega (arith, ints))
sign (negsuc n) = inr (omega (arith, ints))

pub quotient_bounds : (v b q : ℤ) → neg_ℤ (pos 4194304) ≤ℤ v → v ≤ℤ pos 4194304 → Quotient v b q → IsNearZero q
quotient_bounds v b q l h d = near_at v b q l h d (sign v)

pub center_west : (v q z : ℤ) (p : ℕ) → z ≡ pos 2 *ℤ q +ℤ pos 1 → Quotient v (pos (2 * p)) q → (v -ℤ pos p) ≤ℤ (z *ℤ pos p)
center_west v q z p e d =
    let samples : (pos 2 *ℤ q +ℤ pos 1) *ℤ pos p ≡ pos (2 * p) *ℤ q +ℤ pos p = center_in_samples q p in
    let at_center : (v -ℤ pos p) ≤ℤ ((pos 2 *ℤ q +ℤ pos 1) *ℤ pos p) = rw samples (west_of v (pos (2 * p) *ℤ q) p d.above) in
    subst (λ (x : ℤ). (v -ℤ pos p) ≤ℤ (x *ℤ pos p)) (sym e) at_center

pub center_east : (v q z : ℤ) (p : ℕ) → z ≡ pos 2 *ℤ q +ℤ pos 1 → Quotient v (pos (2 * p)) q → (z *ℤ pos p) ≤ℤ (v +ℤ pos p)
center_east v q z p e d =
    let samples : (pos 2 *ℤ q +ℤ pos 1) *ℤ pos p ≡ pos (2 * p) *ℤ q +ℤ pos p = center_in_samples q p in
    let at_center : ((pos 2 *ℤ q +ℤ pos 1) *ℤ pos p) ≤ℤ (v +ℤ pos p) = rw samples (east_of v (pos (2 * p) *ℤ q) p d.below) in
    subst (λ (x : ℤ). (x *ℤ pos p) ≤ℤ (v +ℤ pos p)) (sym e) at_center

pub margin_is : (b r : ℤ) (w : ℕ) → SFits w32 b → SFits w32 r → b ≡ pos w → r ≡ int_max (to_z w32 (of_z w32 b)) (pos 2) → to_z w32 (of_z w32 r) ≡ pos (max 2 w)
margin_is b r w fb fr e f = read_back r fr ∙ f ∙ ap (λ (x : ℤ). int_max x (pos 2)) (read_back b fb ∙ e) ∙ larger w
