-- Numbers along one axis: squares and sides of a region and of its hole balance.
use Rattle.std.proofs.Common.{◌≡◌, ℕ, ◌+◌, ◌*◌, ◌≤◌, Bool, true, false, ◌&&◌, ℤ, pos, ◌+ℤ◌, ◌-ℤ◌, ◌≤ℤ◌, ◌<ℤ◌, refl, arith}
use Rattle.std.proofs.lemmas.Int.{ints}
use Rattle.std.proofs.lemmas.Bool.{false≢true}
use lib.Signed.{le_z}
use Rattle.watertight_laws.proofs.Sums.{one_if}

-- the square from c to c + 1 lies between a and b
abbrev pub in_span : ℤ → ℤ → ℤ → Bool
in_span a b c = le_z a c && le_z c (b -ℤ pos 1)

abbrev pub is_end : ℤ → ℤ → Bool
is_end a c = le_z a c && le_z c a

pub span_ends : (a b c : ℤ) → a ≤ℤ b → one_if (in_span a b c) + one_if (is_end b c) ≡ one_if (in_span a b (c -ℤ pos 1)) + one_if (is_end a c)
span_ends a b c h = grind (arith, ints)

pub span_end_most : (a b c : ℤ) → one_if (in_span a b c) + one_if (is_end b c) ≤ 1
span_end_most a b c = grind (arith, ints)

pub end_in_span : (a b c : ℤ) → a <ℤ b → one_if (is_end a c) ≤ one_if (in_span a b c)
end_in_span a b c h = grind (arith, ints)

-- the span of the step that begins one further on
pub shifted : (a b c c' : ℤ) → c' ≡ c +ℤ pos 1 → (le_z (a +ℤ pos 1) c' && le_z c' b) ≡ in_span a b c
shifted a b c c' h = grind (arith, ints)

pub one_and : (x y : Bool) → one_if (x && y) ≡ one_if x * one_if y
one_and true y = omega arith
one_and false y = omega arith

-- squares S and S' on the two sides of a step along a line, with the ends of the region's span and of the hole's span that the line meets
pub record IsLine (z h : Bool) (s s' rs rs' ra rb gs gs' ga gb : ℕ) : Type 0 where
  pub squares : s + gs * one_if h ≡ rs * one_if z
  pub squares' : s' + gs' * one_if h ≡ rs' * one_if z
  pub region : z ≡ true → rs + rb ≡ rs' + ra
  pub most : z ≡ true → rs + rb ≤ 1
  pub gap : h ≡ true → gs + gb ≡ gs' + ga
  pub within : h ≡ true → ga ≤ gs
  pub both : h ≡ true → z ≡ true

-- as many steps one way as the other, and no more than one
abbrev pub Balances : Bool → Bool → ℕ → ℕ → ℕ → ℕ → ℕ → ℕ → ℕ → Type 0
Balances z h s s' rs ra rb ga gb =
    (s + rb * one_if z + ga * one_if h ≡ s' + ra * one_if z + gb * one_if h) × (s + rb * one_if z + ga * one_if h ≤ (rs + rb) * one_if z)

both_in : (s s' rs rs' ra rb gs gs' ga gb : ℕ) → s + gs * 1 ≡ rs * 1 → s' + gs' * 1 ≡ rs' * 1 → rs + rb ≡ rs' + ra → gs + gb ≡ gs' + ga → ga ≤ gs →
    (s + rb * 1 + ga * 1 ≡ s' + ra * 1 + gb * 1) × (s + rb * 1 + ga * 1 ≤ (rs + rb) * 1)
both_in s s' rs rs' ra rb gs gs' ga gb e e' r g w = (omega (arith, e, e', r, g), omega (arith, e, e', r, g, w))

region_only : (s s' rs rs' ra rb gs gs' ga gb : ℕ) → s + gs * 0 ≡ rs * 1 → s' + gs' * 0 ≡ rs' * 1 → rs + rb ≡ rs' + ra →
    (s + rb * 1 + ga * 0 ≡ s' + ra * 1 + gb * 0) × (s + rb * 1 + ga * 0 ≤ (rs + rb) * 1)
region_only s s' rs rs' ra rb gs gs' ga gb e e' r = (omega (arith, e, e', r), omega (arith, e, e', r))

neither : (s s' rs rs' ra rb gs gs' ga gb : ℕ) → s + gs * 0 ≡ rs * 0 → s' + gs' * 0 ≡ rs' * 0 →
    (s + rb * 0 + ga * 0 ≡ s' + ra * 0 + gb * 0) × (s + rb * 0 + ga * 0 ≤ (rs + rb) * 0)
neither s s' rs rs' ra rb gs gs' ga gb e e' = (omega (arith, e, e'), omega (arith, e, e'))

pub balance : (z h : Bool) (s s' rs rs' ra rb gs gs' ga gb : ℕ) → IsLine z h s s' rs rs' ra rb gs gs' ga gb → Balances z h s s' rs ra rb ga gb
balance true true s s' rs rs' ra rb gs gs' ga gb l = both_in s s' rs rs' ra rb gs gs' ga gb l.squares l.squares' (l.region refl) (l.gap refl) (l.within refl)
balance true false s s' rs rs' ra rb gs gs' ga gb l = region_only s s' rs rs' ra rb gs gs' ga gb l.squares l.squares' (l.region refl)
balance false false s s' rs rs' ra rb gs gs' ga gb l = neither s s' rs rs' ra rb gs gs' ga gb l.squares l.squares'
balance false true s s' rs rs' ra rb gs gs' ga gb l = absurd (false≢true (l.both refl))
