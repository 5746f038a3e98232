-- Division that rounds down.
use Rattle.std.proofs.Common.{◌≡◌, ℕ, ◌/◌, ◌<◌, ◌≤◌, ℤ, pos, negsuc, ◌+ℤ◌, ◌*ℤ◌, ◌≤ℤ◌, ◌<ℤ◌, unsigned_abs, refl, ap, sym, ◌∙◌, subst, arith}
use Rattle.std.proofs.lemmas.Int.{ints}
use Rattle.std.specs.Int.{int_div_euclid, int_rem_euclid}
use mathlib.Core.Path.{ap₂}
use mir.Syntax.{w32}
use mir.Val.{SFits, of_z, to_z}
use native.Mathlib.Nat.{div-le_self}
use Rattle.clip_regions.proofs.Numbers.{read_back}
use Rattle.clip_regions.specs.FloorDivision.{floor_div, floor_rem}

-- a positive number is its size
pub own_size : (b : ℤ) → pos 0 <ℤ b → b ≡ pos (unsigned_abs b)
own_size (pos n) h = refl
own_size (negsuc n) h = omega (arith, ints)

pub size_positive : (b : ℤ) → pos 0 <ℤ b → 0 < unsigned_abs b
size_positive (pos n) h = omega (arith, ints)
size_positive (negsuc n) h = omega (arith, ints)

pub div_euclid_is : (a : ℤ) (d : ℕ) → int_div_euclid a (pos d) ≡ floor_div a d
unfolding floor_div
div_euclid_is (pos n) d = refl
div_euclid_is (negsuc n) d = refl

pub rem_euclid_is : (a : ℤ) (d : ℕ) → int_rem_euclid a (pos d) ≡ pos (floor_rem a d)
unfolding floor_rem
rem_euclid_is (pos n) d = refl
rem_euclid_is (negsuc n) d = refl

pub rem_below : (a : ℤ) (d : ℕ) → 0 < d → floor_rem a d < d
unfolding floor_rem
rem_below (pos n) d h = omega arith
rem_below (negsuc n) d h = omega arith

-- the number is d quotients and the remainder
pub quotient_and_rest : (a : ℤ) (d : ℕ) → 0 < d → a ≡ pos d *ℤ floor_div a d +ℤ pos (floor_rem a d)
unfolding floor_div floor_rem
quotient_and_rest (pos n) d h = omega (arith, ints)
quotient_and_rest (negsuc n) d h = omega (arith, ints)

-- what the code's quotient and remainder are
pub quotient_is : (a b r : ℤ) → SFits w32 a → SFits w32 b → SFits w32 r → pos 0 <ℤ b → r ≡ int_div_euclid (to_z w32 (of_z w32 a)) (to_z w32 (of_z w32 b)) → to_z w32 (of_z w32 r) ≡ floor_div a (unsigned_abs b)
quotient_is a b r fa fb fr h e =
    read_back r fr ∙ e ∙ ap₂ int_div_euclid (read_back a fa) (read_back b fb) ∙ ap (int_div_euclid a) (own_size b h) ∙ div_euclid_is a (unsigned_abs b)

pub remainder_is : (a b r : ℤ) → SFits w32 a → SFits w32 b → SFits w32 r → pos 0 <ℤ b → r ≡ int_rem_euclid (to_z w32 (of_z w32 a)) (to_z w32 (of_z w32 b)) → to_z w32 (of_z w32 r) ≡ pos (floor_rem a (unsigned_abs b))
remainder_is a b r fa fb fr h e =
    read_back r fr ∙ e ∙ ap₂ int_rem_euclid (read_back a fa) (read_back b fb) ∙ ap (int_rem_euclid a) (own_size b h) ∙ rem_euclid_is a (unsigned_abs b)

-- what is known of a quotient q of a by b
pub record Quotient (a b q : ℤ) : Type 0 where
  pub below : (b *ℤ q) ≤ℤ a
  pub above : a <ℤ (b *ℤ q +ℤ b)
  pub at_zero_or_more : pos 0 ≤ℤ a → (pos 0 ≤ℤ q) × (q ≤ℤ a)
  pub below_zero : a <ℤ pos 0 → (a ≤ℤ q) × (q <ℤ pos 0)

below_at : (a : ℤ) (d : ℕ) → 0 < d → (pos d *ℤ floor_div a d) ≤ℤ a
below_at a d h =
    let below : floor_rem a d < d = rem_below a d h in
    let whole : a ≡ pos d *ℤ floor_div a d +ℤ pos (floor_rem a d) = quotient_and_rest a d h in
    omega (arith, ints)

above_at : (a : ℤ) (d : ℕ) → 0 < d → a <ℤ (pos d *ℤ floor_div a d +ℤ pos d)
above_at a d h =
    let below : floor_rem a d < d = rem_below a d h in
    let whole : a ≡ pos d *ℤ floor_div a d +ℤ pos (floor_rem a d) = quotient_and_rest a d h in
    omega (arith, ints)

at_zero_or_more_at : (a : ℤ) (d : ℕ) → 0 < d → pos 0 ≤ℤ a → (pos 0 ≤ℤ floor_div a d) × (floor_div a d ≤ℤ a)
unfolding floor_div
at_zero_or_more_at (pos n) d h p =
    let least : n / d ≤ n = div-le_self n d in
    (omega (arith, ints), omega (arith, ints))
at_zero_or_more_at (negsuc n) d h p = absurd (omega (arith, ints))

below_zero_at : (a : ℤ) (d : ℕ) → 0 < d → a <ℤ pos 0 → (a ≤ℤ floor_div a d) × (floor_div a d <ℤ pos 0)
unfolding floor_div
below_zero_at (pos n) d h p = absurd (omega (arith, ints))
below_zero_at (negsuc n) d h p =
    let least : n / d ≤ n = div-le_self n d in
    (omega (arith, ints), omega (arith, ints))

pub quotient_at : (a : ℤ) (d : ℕ) → 0 < d → Quotient a (pos d) (floor_div a d)
quotient_at a d h = record {
  below = below_at a d h;
  above = above_at a d h;
  at_zero_or_more = at_zero_or_more_at a d h;
  below_zero = below_zero_at a d h;
}

pub quotient : (a b q : ℤ) → pos 0 <ℤ b → q ≡ floor_div a (unsigned_abs b) → Quotient a b q
quotient a b q h e =
    let at_size : Quotient a (pos (unsigned_abs b)) (floor_div a (unsigned_abs b)) = quotient_at a (unsigned_abs b) (size_positive b h) in
    let at_divisor : Quotient a b (floor_div a (unsigned_abs b)) = subst (λ (d : ℤ). Quotient a d (floor_div a (unsigned_abs b))) (sym (own_size b h)) at_size in
    subst (λ (x : ℤ). Quotient a b x) (sym e) at_divisor

pub rest : (a b r : ℤ) → pos 0 <ℤ b → r ≡ pos (floor_rem a (unsigned_abs b)) → a ≡ b *ℤ floor_div a (unsigned_abs b) +ℤ r
rest a b r h e =
    quotient_and_rest a (unsigned_abs b) (size_positive b h) ∙ ap₂ (λ (d x : ℤ). d *ℤ floor_div a (unsigned_abs b) +ℤ x) (sym (own_size b h)) (sym e)
