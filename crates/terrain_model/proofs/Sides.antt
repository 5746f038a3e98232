-- The first of some numbers in a row that passes a test, and squares.
use Rattle.std.proofs.Common.{◌≡◌, ℕ, zero, suc, ◌+◌, ◌*◌, ◌<◌, ◌≤◌, Bool, true, false, cond, Option, Some, find, refl, sym, subst, ⊎_elim, arith, eqb}
use Rattle.std.specs.List.{range_with_len}
use Rattle.std.proofs.lemmas.Bool.{cases_eq}
use Rattle.std.proofs.lemmas.Bool.Decides.{nat_tests}
use Rattle.std.proofs.lemmas.Nat.{mul-lt}
use Rattle.terrain_model.specs.Tile.{side_of_length, tile_sides}

step_passes : (p : ℕ → Bool) (a n x : ℕ) (b : Bool) → p a ≡ b → (find p (range_with_len (a + 1) n) ≡ Some x → (a + 1 ≤ x) × (x < a + 1 + n) × (p x ≡ true)) → cond b (Some a) (find p (range_with_len (a + 1) n)) ≡ Some x → (a ≤ x) × (x < a + suc n) × (p x ≡ true)
step_passes p a n x true passes later found =
    let same : a ≡ x = cc in
    (omega arith, omega arith, cc)
step_passes p a n x false passes later found =
    let l : (a + 1 ≤ x) × (x < a + 1 + n) × (p x ≡ true) = later found in
    (omega (arith, l.0), omega (arith, l.1), l.2)

-- what is found among n numbers from a on is one of them and passes
pub find_passes : (p : ℕ → Bool) (a n x : ℕ) → find p (range_with_len a n) ≡ Some x → (a ≤ x) × (x < a + n) × (p x ≡ true)
find_passes p a zero x found = cc
find_passes p a (suc n) x found = step_passes p a n x (p a) refl (find_passes p (a + 1) n x) found

step_finds : (b : Bool) (x : ℕ) (later : Option ℕ) → b ≡ true → cond b (Some x) later ≡ Some x
step_finds b x later e = rw e refl

step_skips : (b : Bool) (a x : ℕ) (later : Option ℕ) → b ≡ false → later ≡ Some x → cond b (Some a) later ≡ Some x
step_skips b a x later e f = rw e f

-- a number that passes, where none before it does, is found
pub find_first : (p : ℕ → Bool) (a n x : ℕ) → a ≤ x → x < a + n → p x ≡ true → ((y : ℕ) → a ≤ y → y < x → p y ≡ false) → find p (range_with_len a n) ≡ Some x
find_first p a zero x low high passes before = absurd (omega arith)
find_first p a (suc n) x low high passes before =
    ⊎_elim
    (λ (same : a ≡ x).
    let P : ℕ → Type 0 = λ v. cond (p v) (Some v) (find p (range_with_len (v + 1) n)) ≡ Some v in
    let Q : ℕ → Type 0 = λ v. cond (p a) (Some a) (find p (range_with_len (a + 1) n)) ≡ Some v in
    subst Q same (step_finds (p a) a (find p (range_with_len (a + 1) n)) (let R : ℕ → Type 0 = λ v. p v ≡ true in subst R (sym same) passes)))
    (λ (other : a ≡ x → ⊥).
    let less : a < x = omega arith in
    step_skips (p a) a x (find p (range_with_len (a + 1) n)) (before a (omega arith) less) (find_first p (a + 1) n x (omega arith) (omega arith) passes (λ y l h. before y (omega arith) h)))
    (cases_eq a x)

-- the samples of a smaller square are fewer
pub squares_differ : (length small large : ℕ) → small < large → 2 * (large * large) ≡ length → eqb (2 * (small * small)) length ≡ false
squares_differ length small large less e =
    let l : small * small < large * large = mul-lt small small large large less less in
    grind (arith, nat_tests)

-- a test of equality that passes
pub square_equal : (length side : ℕ) → eqb (2 * (side * side)) length ≡ true → 2 * (side * side) ≡ length
square_equal length side e = grind (arith, nat_tests)

-- a test of equality passes
pub square_passes : (side : ℕ) → eqb (2 * (side * side)) (2 * (side * side)) ≡ true
square_passes side = grind (arith, nat_tests)

pub side_fits : (length side : ℕ) → side_of_length length ≡ Some side → (3 ≤ side) × (side ≤ 3601) × (2 * (side * side) ≡ length)
unfolding side_of_length tile_sides
side_fits length side found =
    let f : (3 ≤ side) × (side < 3 + 3599) × (eqb (2 * (side * side)) length ≡ true) = find_passes (λ s. eqb (2 * (s * s)) length) 3 3599 side found in
    (f.0, omega (arith, f.1), square_equal length side f.2)

pub side_found : (side : ℕ) → 3 ≤ side → side ≤ 3601 → side_of_length (2 * (side * side)) ≡ Some side
unfolding side_of_length tile_sides
side_found side low high =
    find_first (λ s. eqb (2 * (s * s)) (2 * (side * side))) 3 3599 side low (omega arith) (square_passes side) (λ y l h. squares_differ (2 * (side * side)) y side h refl)
