-- How many whole numbers lie between two.
use Rattle.std.proofs.Common.{◌≡◌, ℕ, ◌+◌, ◌-◌, ℤ, pos, negsuc, ◌+ℤ◌, ◌-ℤ◌, ◌≤ℤ◌, ◌≤◌, ◌<◌, ◌*◌, neg_ℤ, nat_abs, sym, refl, arith}
use Rattle.std.specs.Int.{int_gap}
use Rattle.std.proofs.lemmas.Int.{ints}
use borrow.Author.Differences.{up, down}

pub gap_is : (a b : ℤ) (n : ℕ) → a +ℤ pos n ≡ b → int_gap a b ≡ n
gap_is (pos a) (pos b) n e = omega (arith, ints)
gap_is (pos a) (negsuc b) n e = absurd (omega (arith, ints))
gap_is (negsuc a) (pos b) n e = omega (arith, ints)
gap_is (negsuc a) (negsuc b) n e = omega (arith, ints)

pub gap_none : (a b : ℤ) → b ≤ℤ a → int_gap a b ≡ 0
gap_none (pos a) (pos b) h = omega (arith, ints)
gap_none (pos a) (negsuc b) h = refl
gap_none (negsuc a) (pos b) h = absurd (omega (arith, ints))
gap_none (negsuc a) (negsuc b) h = omega (arith, ints)

pub size_is : (z : ℤ) → pos 0 ≤ℤ z → pos (nat_abs z) ≡ z
size_is (pos n) h = refl
size_is (negsuc n) h = absurd (omega (arith, ints))

-- the numbers from a to b, both included
pub span_is : (a b d : ℤ) → d ≡ b -ℤ a → pos 0 ≤ℤ d → nat_abs d + 1 ≡ int_gap a (b +ℤ pos 1)
span_is a b d e h =
    let size = size_is d h in
    let reached : a +ℤ pos (nat_abs d + 1) ≡ b +ℤ pos 1 = omega (arith, ints, size, e) in
    sym (gap_is a (b +ℤ pos 1) (nat_abs d + 1) reached)

pub span_few : (a b d : ℤ) (n : ℕ) → d ≡ b -ℤ a → pos 0 ≤ℤ d → neg_ℤ (pos n) ≤ℤ a → b ≤ℤ pos n → nat_abs d ≤ 2 * n
span_few a b d n e h low high = omega (arith, ints, size_is d h)

-- what lies in the gap ends within it
pub gap_holds : (a b : ℤ) (u : ℕ) → u < int_gap a b → (a +ℤ pos (u + 1)) ≤ℤ b
gap_holds (pos a) (pos b) u h = omega (arith, ints)
gap_holds (pos a) (negsuc b) u h = absurd (omega arith)
gap_holds (negsuc a) (pos b) u h = omega (arith, ints)
gap_holds (negsuc a) (negsuc b) u h = omega (arith, ints)

-- and what reaches its end
pub gap_ends : (a b : ℤ) (u : ℕ) → 0 < int_gap a b → u ≤ int_gap a b → (a +ℤ pos u) ≤ℤ b
gap_ends (pos a) (pos b) u some h = omega (arith, ints)
gap_ends (pos a) (negsuc b) u some h = absurd (omega arith)
gap_ends (negsuc a) (pos b) u some h = omega (arith, ints)
gap_ends (negsuc a) (negsuc b) u some h = omega (arith, ints)

-- the way from one number to another that isn't below it
pub way_is : (a b d : ℤ) → d ≡ b -ℤ a → pos 0 ≤ℤ d → nat_abs d ≡ int_gap a b
way_is a b d e h =
    let size = size_is d h in
    let reached : a +ℤ pos (nat_abs d) ≡ b = omega (arith, ints, size, e) in
    sym (gap_is a b (nat_abs d) reached)

-- and how far it is within a span of this many numbers
pub gap_by : (a b : ℤ) → int_gap a b ≡ (up b + down a) - (up a + down b)
gap_by (pos a) (pos b) = omega arith
gap_by (pos a) (negsuc b) = omega arith
gap_by (negsuc a) (pos b) = omega arith
gap_by (negsuc a) (negsuc b) = omega arith

pub way_within : (a b c : ℤ) (n : ℕ) → a ≤ℤ b → b ≤ℤ c → int_gap a (c +ℤ pos 1) ≤ n → int_gap a b + 1 ≤ n
way_within a b c n h k few =
    let short = gap_by a b in
    let whole = gap_by a (c +ℤ pos 1) in
    omega (arith, ints, h, k, few, short, whole)
