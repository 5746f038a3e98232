-- Blocks of an axis among the tiles of a torus, going round.
use Rattle.std.proofs.Common.{◌≡◌, ℕ, zero, suc, ◌+◌, ◌-◌, ◌*◌, ◌<◌, ◌≤◌, Bool, true, false, ◌||◌, ◌==◌, ℤ, pos, ◌+ℤ◌, ◌*ℤ◌, ◌≤ℤ◌, ◌<ℤ◌, map, ap, sym, ◌∙◌, subst, inl, inr, arith, eq-eqb}
use Rattle.std.specs.Prelude.{nat_lt}
use Rattle.std.specs.List.{range_with_len, list_any}
use Rattle.std.proofs.lemmas.Int.{ints, by_lt_z}
use Rattle.std.proofs.lemmas.Bool.{cases_Bool, or_left, or_right, true≢false, false_from_ne_true, eqb-true}
use Rattle.std.proofs.lemmas.Bool.Decides.{nat_tests}
use borrow.Author.Differences.{up, down}
use Rattle.clip_regions.specs.FloorDivision.{floor_div, floor_rem}
use Rattle.clip_regions.specs.Regions.{numbers_from}
use Rattle.strip_planner.specs.Met.{has_place, ahead}
use Rattle.clip_regions.proofs.Cells.{same_test}
use Rattle.clip_regions.proofs.Quotients.{rem_below, quotient_and_rest}
use Rattle.plan_model.proofs.Quotients.{same_quotient}

-- ---- quotient and remainder
-- a remainder is the one number below the divisor that a multiple of it is short of
pub rem_is : (z q : ℤ) (d r : ℕ) → 0 < d → r < d → z ≡ pos d *ℤ q +ℤ pos r → floor_rem z d ≡ r
rem_is z q d r some small e =
    let below : floor_rem z d < d = rem_below z d some in
    let whole : z ≡ pos d *ℤ floor_div z d +ℤ pos (floor_rem z d) = quotient_and_rest z d some in
    let same : floor_div z d ≡ q = same_quotient (floor_div z d) q d (omega (arith, ints)) (omega (arith, ints)) in
    let product : pos d *ℤ floor_div z d ≡ pos d *ℤ q = ap (λ (v : ℤ). pos d *ℤ v) same in
    omega (arith, ints)

times_next : (q : ℤ) (d : ℕ) → pos d *ℤ (q +ℤ pos 1) ≡ pos d *ℤ q +ℤ pos d
times_next q d =
    let parts : up (q +ℤ pos 1) + down q ≡ down (q +ℤ pos 1) + (up q + 1) = omega (arith, ints) in
    let scaled : d * (up (q +ℤ pos 1) + down q) ≡ d * (down (q +ℤ pos 1) + (up q + 1)) = ap (λ (n : ℕ). d * n) parts in
    omega (arith, ints, scaled)

-- n places on, before the end of the round and after it
rem_near : (z : ℤ) (d n : ℕ) → 0 < d → floor_rem z d + n < d → floor_rem (z +ℤ pos n) d ≡ floor_rem z d + n
rem_near z d n some h =
    let whole : z ≡ pos d *ℤ floor_div z d +ℤ pos (floor_rem z d) = quotient_and_rest z d some in
    rem_is (z +ℤ pos n) (floor_div z d) d (floor_rem z d + n) some h (omega (arith, ints))

rem_round : (z : ℤ) (d n : ℕ) → 0 < d → n < d → d ≤ floor_rem z d + n → floor_rem (z +ℤ pos n) d ≡ floor_rem z d + n - d
rem_round z d n some small h =
    let below : floor_rem z d < d = rem_below z d some in
    let whole : z ≡ pos d *ℤ floor_div z d +ℤ pos (floor_rem z d) = quotient_and_rest z d some in
    let next : pos d *ℤ (floor_div z d +ℤ pos 1) ≡ pos d *ℤ floor_div z d +ℤ pos d = times_next (floor_div z d) d in
    rem_is (z +ℤ pos n) (floor_div z d +ℤ pos 1) d (floor_rem z d + n - d) some (omega arith) (omega (arith, ints))

-- ---- how far a place lies ahead
pub ahead_after : (side from t : ℕ) → from ≤ t → ahead side from t ≡ t - from
unfolding ahead
ahead_after side from t h = grind (arith, nat_tests)

pub ahead_round : (side from t : ℕ) → t < from → ahead side from t ≡ t + side - from
unfolding ahead
ahead_round side from t h = grind (arith, nat_tests)

pub by_order : {P : Type 0} (a b : ℕ) → (a ≤ b → P) → (b < a → P) → P
by_order a b f g =
    by_lt_z (pos b) (pos a) (λ (h : pos b <ℤ pos a). g (omega (arith, ints))) (λ (h : pos a ≤ℤ pos b). f (omega (arith, ints)))

-- the place that lies so far ahead
reached_after : (side : ℕ) (first : ℤ) (t : ℕ) → 0 < side → t < side → floor_rem first side ≤ t → floor_rem (first +ℤ pos (ahead side (floor_rem first side) t)) side ≡ t
reached_after side first t some small h =
    let below : floor_rem first side < side = rem_below first side some in
    let near : floor_rem (first +ℤ pos (t - floor_rem first side)) side ≡ floor_rem first side + (t - floor_rem first side) = rem_near first side (t - floor_rem first side) some (omega arith) in
    let back : floor_rem first side + (t - floor_rem first side) ≡ t = omega arith in
    ap (λ (n : ℕ). floor_rem (first +ℤ pos n) side) (ahead_after side (floor_rem first side) t h) ∙ near ∙ back

reached_round : (side : ℕ) (first : ℤ) (t : ℕ) → 0 < side → t < side → t < floor_rem first side → floor_rem (first +ℤ pos (ahead side (floor_rem first side) t)) side ≡ t
reached_round side first t some small h =
    let below : floor_rem first side < side = rem_below first side some in
    let near : floor_rem (first +ℤ pos (t + side - floor_rem first side)) side ≡ floor_rem first side + (t + side - floor_rem first side) - side = rem_round first side (t + side - floor_rem first side) some (omega arith) (omega arith) in
    let back : floor_rem first side + (t + side - floor_rem first side) - side ≡ t = omega arith in
    ap (λ (n : ℕ). floor_rem (first +ℤ pos n) side) (ahead_round side (floor_rem first side) t h) ∙ near ∙ back

reached : (side : ℕ) (first : ℤ) (t : ℕ) → 0 < side → t < side → floor_rem (first +ℤ pos (ahead side (floor_rem first side) t)) side ≡ t
reached side first t some small =
    by_order (floor_rem first side) t (reached_after side first t some small) (reached_round side first t some small)

ahead_below : (side from t : ℕ) → from < side → t < side → ahead side from t < side
ahead_below side from t h k =
    by_order from t (λ (l : from ≤ t). let far : ahead side from t ≡ t - from = ahead_after side from t l in omega arith) (λ (l : t < from). let far : ahead side from t ≡ t + side - from = ahead_round side from t l in omega arith)

-- no place is reached before that
not_before : (side : ℕ) (first : ℤ) (m t : ℕ) → 0 < side → floor_rem (first +ℤ pos m) side ≡ t → ahead side (floor_rem first side) t ≤ m
not_before side first m t some e =
    let below : floor_rem first side < side = rem_below first side some in
    let small : t < side = subst (λ (n : ℕ). n < side) e (rem_below (first +ℤ pos m) side some) in
    let most : ahead side (floor_rem first side) t < side = ahead_below side (floor_rem first side) t below small in
    by_order side m (λ (l : side ≤ m). omega arith) (λ (l : m < side). by_order side (floor_rem first side + m) (λ (k : side ≤ floor_rem first side + m). let round : floor_rem (first +ℤ pos m) side ≡ floor_rem first side + m - side = rem_round first side m some l k in let far : ahead side (floor_rem first side) t ≡ t + side - floor_rem first side = ahead_round side (floor_rem first side) t (omega arith) in omega arith) (λ (k : floor_rem first side + m < side). let near : floor_rem (first +ℤ pos m) side ≡ floor_rem first side + m = rem_near first side m some k in let far : ahead side (floor_rem first side) t ≡ t - floor_rem first side = ahead_after side (floor_rem first side) t (omega arith) in omega arith))

-- ---- some number of a range passes a test
record FoundAt (p : ℤ → Bool) (f : ℕ → ℤ) (a b : ℕ) : Type 0 where
  at : ℕ
  low : a ≤ at
  high : at < b
  passes : p (f at) ≡ true

found : (p : ℤ → Bool) (f : ℕ → ℤ) (a n : ℕ) → list_any p (map f (range_with_len a n)) ≡ true → FoundAt p f a (a + n)
found p f a zero e = absurd (true≢false (sym e))
found p f a (suc n) e =
    elim (cases_Bool (p (f a))) [
      | inl t ↦ record { at = a; low = omega arith; high = omega arith; passes = t }
      | inr t ↦
          let rest : list_any p (map f (range_with_len (a + 1) n)) ≡ true = subst (λ (b : Bool). (b || list_any p (map f (range_with_len (a + 1) n))) ≡ true) t e in
          let there = found p f (a + 1) n rest in
          record { at = there.at; low = omega (arith, there.low); high = omega (arith, there.high); passes = there.passes }
    ]

finds : (p : ℤ → Bool) (f : ℕ → ℤ) (a n m : ℕ) → a ≤ m → m < a + n → p (f m) ≡ true → list_any p (map f (range_with_len a n)) ≡ true
finds p f a zero m low high t = absurd (omega arith)
finds p f a (suc n) m low high t =
    by_order m a (λ (h : m ≤ a). let same : m ≡ a = omega arith in or_left (p (f a)) (list_any p (map f (range_with_len (a + 1) n))) (subst (λ (k : ℕ). p (f k) ≡ true) same t)) (λ (h : a < m). or_right (p (f a)) (list_any p (map f (range_with_len (a + 1) n))) (finds p f (a + 1) n m (omega arith) (omega arith) t))

-- ---- the blocks that have a place among the tiles
pub less_is : (a b : ℕ) → nat_lt a b ≡ true → a < b
less_is a b h = grind (arith, nat_tests)

pub less_of : (a b : ℕ) → a < b → nat_lt a b ≡ true
less_of a b h = grind (arith, nat_tests)

pub has_place_at : (side : ℕ) (first : ℤ) (n t : ℕ) → 0 < side → t < side → has_place side first n t ≡ nat_lt (ahead side (floor_rem first side) t) n
unfolding has_place
has_place_at side first n t some small =
    same_test (list_any (λ (b : ℤ). floor_rem b side == t) (numbers_from first n)) (nat_lt (ahead side (floor_rem first side) t) n) (λ e. let there = found (λ (b : ℤ). floor_rem b side == t) (λ (i : ℕ). first +ℤ pos i) 0 n e in let far : ahead side (floor_rem first side) t ≤ there.at = not_before side first there.at t some (eqb-true (floor_rem (first +ℤ pos there.at) side) t there.passes) in less_of (ahead side (floor_rem first side) t) n (omega (arith, there.high))) (λ e. finds (λ (b : ℤ). floor_rem b side == t) (λ (i : ℕ). first +ℤ pos i) 0 n (ahead side (floor_rem first side) t) (omega arith) (let h : ahead side (floor_rem first side) t < n = less_is (ahead side (floor_rem first side) t) n e in omega arith) (eq-eqb (floor_rem (first +ℤ pos (ahead side (floor_rem first side) t)) side) t (reached side first t some small)))

pub has_place_beyond : (side : ℕ) (first : ℤ) (n t : ℕ) → 0 < side → side ≤ t → has_place side first n t ≡ false
unfolding has_place
has_place_beyond side first n t some beyond =
    false_from_ne_true (list_any (λ (b : ℤ). floor_rem b side == t) (numbers_from first n)) (λ e. let there = found (λ (b : ℤ). floor_rem b side == t) (λ (i : ℕ). first +ℤ pos i) 0 n e in let below : floor_rem (first +ℤ pos there.at) side < side = rem_below (first +ℤ pos there.at) side some in let same : floor_rem (first +ℤ pos there.at) side ≡ t = eqb-true (floor_rem (first +ℤ pos there.at) side) t there.passes in omega arith)
