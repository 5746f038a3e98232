-- Rows whose values are all heights of 16 bits.
use Rattle.std.proofs.Common.{◌≡◌, ℕ, ◌+◌, ◌*◌, ◌-◌, ◌<◌, ◌≤◌, ℤ, pos, ◌+ℤ◌, ◌-ℤ◌, List, length, get_or, set, true, sym, ◌∙◌, subst, ⊎_elim, arith, get_or-set_same, get_or-set_other}
use Rattle.std.specs.Int.{w16}
use Rattle.std.specs.Int.Bits.{bit_or}
use Rattle.std.proofs.lemmas.Int.{ints}
use Rattle.std.proofs.lemmas.Nat.{le_or_l, le_or_r}
use Rattle.std.proofs.lemmas.Bool.{cases_eq, cases_lt}
use mir.Val.{SFits}
use Rattle.clip_regions.specs.declared.region.Region.{Region}
use Rattle.clip_regions.specs.Regions.{contains, columns, rows}
use Rattle.four_point.specs.Steps.{value_of, brought, IsNear}
use Rattle.four_point.proofs.StepLemmas.{brought_same}
use Rattle.block_heights.specs.Pieces.{IsSmall, IsExact, within, coded_height, column_of, row_of, IsPieceUpTo, AreNearUpTo}
use Rattle.block_heights.proofs.WholeRows.{column_in, row_in, height_here, near_here}

pub exact_of : (v h : ℤ) (r : ℕ) → v ≡ pos r -ℤ pos 32768 → h ≡ pos r -ℤ pos 32768 → r < 65536 → IsExact v h
exact_of v h r e f below = record { same = f ∙ sym e; low = omega (arith, ints); high = omega (arith, ints) }

-- one more height of a row, with all numbers so far put together bit by bit
pub exact_more : (n all r : ℕ) (heights : List ℤ) (value : ℕ → ℤ) (h : ℤ) → n < length heights → (r < 65536 → IsExact (value n) h) → (all < 65536 → (k : ℕ) → k < n → IsExact (value k) (get_or heights k (pos 0))) → bit_or all r < 65536 → (k : ℕ) → k < n + 1 → IsExact (value k) (get_or (set heights n h) k (pos 0))
exact_more n all r heights value h inside here before few k below =
    let left : all ≤ bit_or all r = le_or_l all r in
    let right : r ≤ bit_or all r = le_or_r all r in
    let fits : IsExact (value n) h = here (omega arith) in
    ⊎_elim
    (λ (same : k ≡ n). subst (λ (m : ℕ). IsExact (value m) (get_or (set heights n h) m (pos 0))) (sym same) (subst (IsExact (value n)) (sym (get_or-set_same heights n h (pos 0) inside)) fits))
    (λ (other : k ≡ n → ⊥). subst (IsExact (value k)) (sym (get_or-set_other heights n k h (pos 0) other)) (before (omega arith) k (omega arith)))
    (cases_eq k n)

exact_near : (step : ℕ) (v h : ℤ) → IsExact v h → IsNear step v
exact_near step v h e =
    let low = e.low in
    let high = e.high in
    record { low = omega (arith, ints); high = omega (arith, ints) }

exact_fits : (v h : ℤ) → IsExact v h → SFits w16 v
exact_fits v h e =
    let low = e.low in
    let high = e.high in
    grind (arith, ints)

exact_brought : (v h : ℤ) → IsExact v h → h ≡ brought v
exact_brought v h e = e.same ∙ sym (brought_same v (exact_fits v h e))

-- the place of a row's column, or one before the row
in_row : (k s : ℕ) → s ≤ k → s + (k - s) ≡ k
in_row k s h = omega arith

near_at_place : (coarser : ℤ → ℤ → ℤ) (step : ℕ) (code : ℤ → ℤ → ℤ) (region : Region) (m k : ℕ) (i j v : ℤ) → m ≡ k → column_of region m ≡ i → row_of region m ≡ j → v ≡ value_of coarser step i j (code i j) → IsNear step v → contains region (column_of region k) (row_of region k) ≡ true → IsNear step (value_of coarser step (column_of region k) (row_of region k) (code (column_of region k) (row_of region k)))
near_at_place coarser step code region m k i j v e column row is near =
    subst (λ (n : ℕ). contains region (column_of region n) (row_of region n) ≡ true → IsNear step (value_of coarser step (column_of region n) (row_of region n) (code (column_of region n) (row_of region n)))) e
    (near_here coarser step code region m i j v column row is near)

-- the rows so far and one more of exact heights
pub exact_heights : (coarser : ℤ → ℤ → ℤ) (step : ℕ) (code : ℤ → ℤ → ℤ) (region : Region) (w b s : ℕ) (value : ℕ → ℤ) (old new row : List ℤ) → IsSmall region → w ≡ columns region → s ≡ b * w → w ≡ 8 → s + w ≤ columns region * rows region → ((a : ℕ) → a < 8 → value a ≡ value_of coarser step (region.x0 +ℤ pos a) (region.y0 +ℤ pos b) (code (region.x0 +ℤ pos a) (region.y0 +ℤ pos b))) → ((a : ℕ) → a < 8 → IsExact (value a) (get_or row a (pos 0))) → ((a : ℕ) → a < 8 → get_or new (s + a) (pos 0) ≡ get_or row a (pos 0)) → ((k : ℕ) → k < s → get_or new k (pos 0) ≡ get_or old k (pos 0)) → IsPieceUpTo s (within region (coded_height coarser step code)) region old → IsPieceUpTo (s + w) (within region (coded_height coarser step code)) region new
exact_heights coarser step code region w b s value old new row small is_width start eight room is exact put kept before = λ k below.
    ⊎_elim
    (λ (earlier : k < s). kept k earlier ∙ before k earlier)
    (λ (here : s ≤ k).
    let a = k - s in
    let e : s + a ≡ k = in_row k s here in
    let few : a < 8 = omega arith in
    let wide : a < w = omega arith in
    let inside : s + a < columns region * rows region = omega arith in
    subst (λ (m : ℕ). get_or new m (pos 0) ≡ within region (coded_height coarser step code) (column_of region m) (row_of region m)) e
    (height_here coarser step code region (s + a) (region.x0 +ℤ pos a) (region.y0 +ℤ pos b) (value a) (get_or new (s + a) (pos 0)) small inside (column_in region w a b s is_width start wide) (row_in region w a b s is_width start wide) (is a few) (put a few ∙ exact_brought (value a) (get_or row a (pos 0)) (exact a few))))
    (cases_lt k s)

pub exact_are_near : (coarser : ℤ → ℤ → ℤ) (step : ℕ) (code : ℤ → ℤ → ℤ) (region : Region) (w b s : ℕ) (value : ℕ → ℤ) (row : List ℤ) → w ≡ columns region → s ≡ b * w → w ≡ 8 → ((a : ℕ) → a < 8 → value a ≡ value_of coarser step (region.x0 +ℤ pos a) (region.y0 +ℤ pos b) (code (region.x0 +ℤ pos a) (region.y0 +ℤ pos b))) → ((a : ℕ) → a < 8 → IsExact (value a) (get_or row a (pos 0))) → AreNearUpTo s coarser step code region region → AreNearUpTo (s + w) coarser step code region region
exact_are_near coarser step code region w b s value row is_width start eight is exact before = λ k below inside.
    ⊎_elim
    (λ (earlier : k < s). before k earlier inside)
    (λ (here : s ≤ k).
    let a = k - s in
    let e : s + a ≡ k = in_row k s here in
    let few : a < 8 = omega arith in
    let wide : a < w = omega arith in
    near_at_place coarser step code region (s + a) k (region.x0 +ℤ pos a) (region.y0 +ℤ pos b) (value a) e (column_in region w a b s is_width start wide) (row_in region w a b s is_width start wide) (is a few) (exact_near step (value a) (get_or row a (pos 0)) (exact a few)) inside)
    (cases_lt k s)
