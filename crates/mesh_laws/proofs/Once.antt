-- Each unit square of the coarsest active region lies in one ring square of one level.
use Rattle.std.proofs.Common.{◌≡◌, ℕ, zero, suc, ◌+◌, ◌-◌, ◌*◌, ◌^◌, ◌<◌, ◌≤◌, Bool, true, false, cond, not, ◌&&◌, List, [], ◌∷◌, ℤ, pos, negsuc, ◌+ℤ◌, ◌-ℤ◌, ◌*ℤ◌, ◌≤ℤ◌, ◌<ℤ◌, length, get_or, map, refl, ap, sym, ◌∙◌, inl, inr, ◌⊎◌, arith}
use Rattle.std.specs.List.{count_by, filter, flat_map, range_with_len}
use Rattle.std.specs.Int.{int_gap}
use Rattle.std.proofs.lemmas.Int.{ints}
use Rattle.std.proofs.lemmas.Bool.{cases_Bool, and_parts, and_from, true≢false}
use Rattle.std.proofs.Math.Nat.{mul-le-mul}
use Rattle.std.proofs.Math.Pow.{pow-add, pow_mono}
use lib.Signed.{lt_z, le_z}
use Rattle.clip_regions.specs.declared.region.Region.{Region}
use Rattle.clip_regions.specs.FloorDivision.{floor_div, floor_rem}
use Rattle.clip_regions.specs.Regions.{contains, is_empty, empty_region, cells, columns, rows, numbers_from, HasEvenCorners}
use Rattle.plan_model.specs.Laws.{IsEvenOrEmpty, AllEvenOrEmpty, AreNested}
use Rattle.mesh_model.specs.Vertices.{hole}
use Rattle.mesh_model.specs.Parts.{squares_in}
use Rattle.mesh_model.specs.Watertight.{lies_in, ring_squares, cover_count, covered, scaled, SquaresCover}
use Rattle.mesh_model.specs.Height.{active_at}
use Rattle.mesh_laws.proofs.Rectangles.{hole_or_none}
use Rattle.mesh_laws.proofs.Places.{from_nothing}
use Rattle.clip_regions.proofs.Gaps.{gap_by}
use Rattle.mesh_laws.proofs.Covered.{one_if, count_cons, one_and, between, square_is}
use Rattle.mesh_laws.proofs.Reaches.{sum_times, twice_times, order_times, unit_times}
use Rattle.clip_regions.proofs.Cells.{tested_lt, Within, HasCell, has_cell, empty_is_empty, same_test}
use Rattle.mesh_model.proofs.Rectangles.{IsInner, hole_within, hole_of_empty, hole_is, half_and_rest, no_hole}
use Rattle.plan_model.proofs.ActiveLaws.{even_if_cell}
use Rattle.clip_regions.proofs.Quotients.{quotient_and_rest, rem_below}
use Rattle.mesh_model.proofs.Tallies.{count_append}

plus_zero : (n : ℕ) → n + 0 ≡ n
plus_zero n = omega arith

-- ---- counts over lists
-- a second test that says the same of all that pass the first
count_filter : {X : Type 0} (p t : X → Bool) (b : Bool) (xs : List X) → ((x : X) → p x ≡ true → t x ≡ b) → count_by p (filter t xs) ≡ one_if b * count_by p xs
unfolding one_if
count_filter p t b [] same = omega arith
count_filter p t b (x ∷ xs) same =
    let rest : count_by p (filter t xs) ≡ one_if b * count_by p xs = count_filter p t b xs same in
    let whole : count_by p (x ∷ xs) ≡ one_if (p x) + count_by p xs = count_cons p x xs in
    elim (cases_Bool (t x)) [
      | inl e ↦
          let kept : count_by p (x ∷ filter t xs) ≡ one_if (p x) + count_by p (filter t xs) = count_cons p x (filter t xs) in
          rw e (kept ∙ counted (p x) (count_by p (filter t xs)) (count_by p xs) (count_by p (x ∷ xs)) rest whole (λ (passed : p x ≡ true). sym (same x passed) ∙ e))
      | inr e ↦ rw e (rest ∙ left (p x) (count_by p xs) (count_by p (x ∷ xs)) whole (λ (passed : p x ≡ true). sym (same x passed) ∙ e))
    ]
  where
    counted : (q : Bool) (n m all : ℕ) → n ≡ one_if b * m → all ≡ one_if q + m → (q ≡ true → b ≡ true) → one_if q + n ≡ one_if b * all
    counted true n m all e whole sure =
        let one : one_if b ≡ 1 = ap one_if (sure refl) in
        let scaled : one_if b * m ≡ 1 * m = ap (λ k. k * m) one in
        let scaled_all : one_if b * all ≡ 1 * all = ap (λ k. k * all) one in
        omega (arith, e, whole, scaled, scaled_all)
    counted false n m all e whole sure =
        let same' : one_if b * m ≡ one_if b * all = ap (λ k. one_if b * k) (omega (arith, whole)) in
        omega (arith, e, same')

    left : (q : Bool) (m all : ℕ) → all ≡ one_if q + m → (q ≡ true → b ≡ false) → one_if b * m ≡ one_if b * all
    left true m all whole sure =
        let none : one_if b ≡ 0 = ap one_if (sure refl) in
        let own : one_if b * m ≡ 0 * m = ap (λ k. k * m) none in
        let whole' : one_if b * all ≡ 0 * all = ap (λ k. k * all) none in
        omega (arith, own, whole')
    left false m all whole sure = ap (λ k. one_if b * k) (omega (arith, whole))

-- of numbers in row, those that pass a test that one number passes
count_numbers : (q : ℤ → Bool) (c : ℤ) → ((i : ℤ) → q i ≡ true → i ≡ c) → q c ≡ true → (a : ℤ) (s n : ℕ) →
    count_by q (map (λ i. a +ℤ pos i) (range_with_len s n)) ≡ between (a +ℤ pos s) (a +ℤ pos (s + n)) c
unfolding between one_if
count_numbers q c only hit a s zero = grind (arith, ints)
count_numbers q c only hit a s (suc n) =
    let rest : count_by q (map (λ i. a +ℤ pos i) (range_with_len (s + 1) n)) ≡ between (a +ℤ pos (s + 1)) (a +ℤ pos (s + 1 + n)) c = count_numbers q c only hit a (s + 1) n in
    let whole = count_cons q (a +ℤ pos s) (map (λ i. a +ℤ pos i) (range_with_len (s + 1) n)) in
    elim (cases_Bool (q (a +ℤ pos s))) [
      | inl e ↦ let here : a +ℤ pos s ≡ c = only (a +ℤ pos s) e in whole ∙ (λ t. one_if (e t) + rest t) ∙ grind (arith, ints, here)
      | inr e ↦ let away : (a +ℤ pos s ≡ c) → ⊥ = (λ same. true≢false (sym hit ∙ sym (ap q same) ∙ e)) in whole ∙ (λ t. one_if (e t) + rest t) ∙ apart (a +ℤ pos s) (a +ℤ pos (s + 1)) (a +ℤ pos (s + 1 + n)) (a +ℤ pos (s + suc n)) (omega (arith, ints)) (omega (arith, ints)) away
    ]
  where
    apart : (l m h h' : ℤ) → m ≡ l +ℤ pos 1 → h ≡ h' → ((l ≡ c) → ⊥) → 0 + between m h c ≡ between l h' c
    apart l m h h' em eh away = grind (arith, ints, em, eh, away)

-- of the cells of a region, those that pass a test of columns and a test of rows
count_row : (q r : ℤ → Bool) (j : ℤ) (is : List ℤ) → count_by (λ (cell : ℤ × ℤ). q cell.0 && r cell.1) (map (λ i. (i, j)) is) ≡ count_by q is * one_if (r j)
unfolding one_if
count_row q r j [] = omega arith
count_row q r j (i ∷ is) =
    let test = λ (cell : ℤ × ℤ). q cell.0 && r cell.1 in
    let one : one_if (q i && r j) ≡ one_if (q i) * one_if (r j) = one_and (q i) (r j) in
    let rest : count_by test (map (λ i. (i, j)) is) ≡ count_by q is * one_if (r j) = count_row q r j is in
    let whole : count_by q (i ∷ is) ≡ one_if (q i) + count_by q is = count_cons q i is in
    let scaled : count_by q (i ∷ is) * one_if (r j) ≡ (one_if (q i) + count_by q is) * one_if (r j) = ap (λ n. n * one_if (r j)) whole in
    count_cons test (i, j) (map (λ i. (i, j)) is) ∙ omega (arith, one, rest, scaled)

count_rows : (q r : ℤ → Bool) (is js : List ℤ) → count_by (λ (cell : ℤ × ℤ). q cell.0 && r cell.1) (flat_map (λ j. map (λ i. (i, j)) is) js) ≡ count_by q is * count_by r js
count_rows q r is [] = omega arith
count_rows q r is (j ∷ js) =
    let test = λ (cell : ℤ × ℤ). q cell.0 && r cell.1 in
    let row : count_by test (map (λ i. (i, j)) is) ≡ count_by q is * one_if (r j) = count_row q r j is in
    let rest : count_by test (flat_map (λ j. map (λ i. (i, j)) is) js) ≡ count_by q is * count_by r js = count_rows q r is js in
    let whole : count_by r (j ∷ js) ≡ one_if (r j) + count_by r js = count_cons r j js in
    let scaled : count_by q is * count_by r (j ∷ js) ≡ count_by q is * (one_if (r j) + count_by r js) = ap (λ n. count_by q is * n) whole in
    count_append test (map (λ i. (i, j)) is) (flat_map (λ j. map (λ i. (i, j)) is) js) ∙ omega (arith, row, rest, scaled)

-- ---- the unit square at x in cells that are d apart
record IsHit (d : ℕ) (x c : ℤ) : Type 0 where
  low : (c *ℤ pos d) ≤ℤ x
  high : x <ℤ ((c +ℤ pos 1) *ℤ pos d)

swapped : (c : ℤ) (d : ℕ) → pos d *ℤ c ≡ c *ℤ pos d
swapped c d = omega (arith, ints)

hit : (d : ℕ) (x : ℤ) → 0 < d → IsHit d x (floor_div x d)
hit d x some =
    let c = floor_div x d in
    let whole : x ≡ pos d *ℤ c +ℤ pos (floor_rem x d) = quotient_and_rest x d some in
    let rest : floor_rem x d < d = rem_below x d some in
    let next : (c +ℤ pos 1) *ℤ pos d ≡ c *ℤ pos d +ℤ pos 1 *ℤ pos d = sum_times c (pos 1) d in
    let one : pos 1 *ℤ pos d ≡ pos d = unit_times d in
    record { low = omega (arith, ints, whole, rest, swapped c d); high = omega (arith, ints, whole, rest, swapped c d, next, one) }

-- no farther than the hit, or past it
past_hit : (d : ℕ) (x a c : ℤ) → IsHit d x c → (a *ℤ pos d) ≤ℤ x → a ≤ℤ c
past_hit d x a c h low =
    elim (order a c) [
      | inl below ↦ below
      | inr past ↦ let scaled : ((c +ℤ pos 1) *ℤ pos d) ≤ℤ (a *ℤ pos d) = order_times (c +ℤ pos 1) a d past in absurd (omega (arith, ints, scaled, low, h.high))
    ]
  where
    order : (m n : ℤ) → (m ≤ℤ n) ⊎ ((n +ℤ pos 1) ≤ℤ m)
    order m n =
        elim (cases_Bool (le_z m n)) [
          | inl e ↦ inl (omega (arith, ints, e))
          | inr e ↦ inr (omega (arith, ints, e))
        ]

before_hit : (d : ℕ) (x b c : ℤ) → IsHit d x c → x <ℤ (b *ℤ pos d) → c ≤ℤ (b -ℤ pos 1)
before_hit d x b c h high =
    elim (cases_Bool (le_z b c)) [
      | inl e ↦ let scaled : (b *ℤ pos d) ≤ℤ (c *ℤ pos d) = order_times b c d (omega (arith, ints, e)) in absurd (omega (arith, ints, scaled, high, h.low))
      | inr e ↦ omega (arith, ints, e)
    ]

-- the test that a cell has the unit square
has_unit : ℕ → ℤ → ℤ → Bool
has_unit d x i = le_z (i *ℤ pos d) x && lt_z x ((i +ℤ pos 1) *ℤ pos d)

hit_passes : (d : ℕ) (x c : ℤ) → IsHit d x c → has_unit d x c ≡ true
unfolding has_unit
hit_passes d x c h =
    and_from (le_z (c *ℤ pos d) x) (lt_z x ((c +ℤ pos 1) *ℤ pos d)) (grind (arith, ints, h.low)) (grind (arith, ints, h.high))

only_hit : (d : ℕ) (x c i : ℤ) → IsHit d x c → has_unit d x i ≡ true → i ≡ c
unfolding has_unit
only_hit d x c i h e =
    let parts : (le_z (i *ℤ pos d) x ≡ true) × (lt_z x ((i +ℤ pos 1) *ℤ pos d) ≡ true) = and_parts (le_z (i *ℤ pos d) x) (lt_z x ((i +ℤ pos 1) *ℤ pos d)) e in
    let low : i ≤ℤ c = past_hit d x i c h (omega (arith, ints, parts.0)) in
    let high : c ≤ℤ (i +ℤ pos 1 -ℤ pos 1) = before_hit d x (i +ℤ pos 1) c h (tested_lt x ((i +ℤ pos 1) *ℤ pos d) parts.1) in
    omega (arith, ints, low, high)

-- how often the unit square at x lies between two lines
unit_between : ℕ → ℤ → ℤ → ℤ → ℕ
unit_between d a b x = one_if (le_z (a *ℤ pos d) x && lt_z x (b *ℤ pos d))

unit_is : (d : ℕ) (a b x c : ℤ) → IsHit d x c → between a b c ≡ unit_between d a b x
unfolding between unit_between
unit_is d a b x c h =
    let low : le_z a c ≡ le_z (a *ℤ pos d) x = same_test (le_z a c) (le_z (a *ℤ pos d) x)
    (λ e. let scaled : (a *ℤ pos d) ≤ℤ (c *ℤ pos d) = order_times a c d (omega (arith, ints, e)) in let l = h.low in grind (arith, ints, scaled, l))
    (λ e. let under : a ≤ℤ c = past_hit d x a c h (omega (arith, ints, e)) in grind (arith, ints, under)) in
    let high : le_z c (b -ℤ pos 1) ≡ lt_z x (b *ℤ pos d) = same_test (le_z c (b -ℤ pos 1)) (lt_z x (b *ℤ pos d))
    (λ e. let scaled : ((c +ℤ pos 1) *ℤ pos d) ≤ℤ (b *ℤ pos d) = order_times (c +ℤ pos 1) b d (omega (arith, ints, e)) in let l = h.high in grind (arith, ints, scaled, l))
    (λ e. let under : c ≤ℤ (b -ℤ pos 1) = before_hit d x b c h (tested_lt x (b *ℤ pos d) e) in grind (arith, ints, under)) in
    λ t. one_if (low t && high t)

-- ---- the unit square at (x, z) in a region's squares
unit_in : ℕ → Region → ℤ → ℤ → ℕ
unit_in d r x z = unit_between d r.x0 r.x1 x * unit_between d r.y0 r.y1 z

gap_lines : (a b c : ℤ) → between (a +ℤ pos 0) (a +ℤ pos (0 + int_gap a (b -ℤ pos 1 +ℤ pos 1))) c ≡ between a b c
unfolding between one_if
gap_lines a b c =
    let wide = gap_by a (b -ℤ pos 1 +ℤ pos 1) in
    let start : a +ℤ pos 0 ≡ a = omega (arith, ints) in
    elim (cases_Bool (le_z b a)) [
      | inl e ↦ let none : int_gap a (b -ℤ pos 1 +ℤ pos 1) ≡ 0 = omega (arith, ints, wide, e) in grind (arith, ints, none, e)
      | inr e ↦ let all : a +ℤ pos (0 + int_gap a (b -ℤ pos 1 +ℤ pos 1)) ≡ b = omega (arith, ints, wide, e) in λ t. cond (le_z (start t) c && le_z c (all t -ℤ pos 1)) 1 0
    ]

axis_count : (d : ℕ) (a b x c : ℤ) → IsHit d x c → count_by (has_unit d x) (numbers_from a (int_gap a (b -ℤ pos 1 +ℤ pos 1))) ≡ unit_between d a b x
axis_count d a b x c h =
    count_numbers (has_unit d x) c (λ i e. only_hit d x c i h e) (hit_passes d x c h) a 0 (int_gap a (b -ℤ pos 1 +ℤ pos 1))
    ∙ gap_lines a b c ∙ unit_is d a b x c h

-- of a region's squares
square_count : (level : ℕ) (r : Region) (x z c e : ℤ) → IsHit (2 ^ level) x c → IsHit (2 ^ level) z e →
    count_by (lies_in level x z) (cells (squares_in r)) ≡ unit_in (2 ^ level) r x z
unfolding lies_in squares_in columns rows has_unit unit_in
square_count level r x z c e hx hz =
    let d = 2 ^ level in
    count_rows (has_unit d x) (has_unit d z) (numbers_from r.x0 (int_gap r.x0 (r.x1 -ℤ pos 1 +ℤ pos 1))) (numbers_from r.y0 (int_gap r.y0 (r.y1 -ℤ pos 1 +ℤ pos 1)))
    ∙ (λ t. axis_count d r.x0 r.x1 x c hx t * axis_count d r.y0 r.y1 z e hz t)

square_hit : (level : ℕ) (r : Region) (x z c e : ℤ) → IsHit (2 ^ level) x c → IsHit (2 ^ level) z e →
    one_if (contains (squares_in r) c e) ≡ unit_in (2 ^ level) r x z
unfolding unit_in
square_hit level r x z c e hx hz =
    let d = 2 ^ level in
    square_is r.x0 r.x1 r.y0 r.y1 c e ∙ (λ t. unit_is d r.x0 r.x1 x c hx t * unit_is d r.y0 r.y1 z e hz t)

only_square : (level : ℕ) (x z c e : ℤ) (square : ℤ × ℤ) → IsHit (2 ^ level) x c → IsHit (2 ^ level) z e → lies_in level x z square ≡ true → (square.0 ≡ c) × (square.1 ≡ e)
unfolding lies_in has_unit
only_square level x z c e square hx hz passed =
    let parts : (has_unit (2 ^ level) x square.0 ≡ true) × (has_unit (2 ^ level) z square.1 ≡ true) = and_parts (has_unit (2 ^ level) x square.0) (has_unit (2 ^ level) z square.1) passed in
    (only_hit (2 ^ level) x c square.0 hx parts.0, only_hit (2 ^ level) z e square.1 hz parts.1)

pow_pos : (level : ℕ) → 0 < 2 ^ level
pow_pos level = let one : 2 ^ 0 ≤ 2 ^ level = pow_mono {i = 0} {j = level} (omega arith) in omega (arith, one)

-- two lines with nothing between them
no_unit : (d : ℕ) (a b x : ℤ) → b ≤ℤ a → unit_between d a b x ≡ 0
unfolding unit_between one_if
no_unit d a b x h =
    let scaled : (b *ℤ pos d) ≤ℤ (a *ℤ pos d) = order_times b a d h in
    grind (arith, ints, scaled)

empty_unit : (d : ℕ) (r : Region) (x z : ℤ) → is_empty r ≡ true → unit_in d r x z ≡ 0
unfolding unit_in is_empty
empty_unit d r x z e =
    elim (cases_Bool (lt_z r.x1 r.x0)) [
      | inl across ↦ ap (λ n. n * unit_between d r.y0 r.y1 z) (no_unit d r.x0 r.x1 x (omega (arith, ints, across))) ∙ omega arith
      | inr across ↦ let along : lt_z r.y1 r.y0 ≡ true = rw across at e in ap (λ n. unit_between d r.x0 r.x1 x * n) (no_unit d r.y0 r.y1 z (omega (arith, ints, along))) ∙ omega arith
    ]

-- at most once, and where one region lies in another no more often in it
unit_once : (d : ℕ) (a b x : ℤ) → unit_between d a b x ≤ 1
unfolding unit_between one_if
unit_once d a b x = once (le_z (a *ℤ pos d) x && lt_z x (b *ℤ pos d))
  where
    once : (q : Bool) → cond q 1 0 ≤ 1
    once true = omega arith
    once false = omega arith

unit_within : (d : ℕ) (a b p q x : ℤ) → a ≤ℤ p → q ≤ℤ b → unit_between d p q x ≤ unit_between d a b x
unfolding unit_between one_if
unit_within d a b p q x h k =
    let low : (a *ℤ pos d) ≤ℤ (p *ℤ pos d) = order_times a p d h in
    let high : (q *ℤ pos d) ≤ℤ (b *ℤ pos d) = order_times q b d k in
    grind (arith, ints, low, high)

in_once : (d : ℕ) (r : Region) (x z : ℤ) → unit_in d r x z ≤ 1
unfolding unit_in
in_once d r x z =
    let both : unit_between d r.x0 r.x1 x * unit_between d r.y0 r.y1 z ≤ 1 * 1 = mul-le-mul (unit_once d r.x0 r.x1 x) (unit_once d r.y0 r.y1 z) in
    omega (arith, both)

in_within : (d : ℕ) (r g : Region) (x z : ℤ) → Within r g → unit_in d g x z ≤ unit_in d r x z
unfolding unit_in
in_within d r g x z w = mul-le-mul (unit_within d r.x0 r.x1 g.x0 g.x1 x w.west w.east) (unit_within d r.y0 r.y1 g.y0 g.y1 z w.north w.south)

hole_in : (e d : ℕ) (finer active : Region) (x z : ℤ) → IsInner e finer active → unit_in d (hole finer) x z ≤ unit_in d active x z
hole_in e d finer active x z inner =
    elim (hole_or_none finer) [
      | inl none ↦ let zero' : unit_in d (hole finer) x z ≡ 0 = empty_unit d (hole finer) x z (ap is_empty none ∙ empty_is_empty) in omega (arith, zero')
      | inr some ↦ in_within d active (hole finer) x z (hole_within e finer active inner some)
    ]

-- ---- rings
-- the ring squares and the hole's squares are together the region's
ring_count : (e level : ℕ) (finer active : Region) (x z : ℤ) → IsInner e finer active →
    count_by (lies_in level x z) (ring_squares finer active) + unit_in (2 ^ level) (hole finer) x z ≡ unit_in (2 ^ level) active x z
unfolding ring_squares one_if
ring_count e level finer active x z inner =
    let d = 2 ^ level in
    let some : 0 < d = pow_pos level in
    let c = floor_div x d in
    let f = floor_div z d in
    let gap = hole finer in
    let hx : IsHit d x c = hit d x some in
    let hz : IsHit d z f = hit d z some in
    let left = λ (square : ℤ × ℤ). not (contains (squares_in gap) square.0 square.1) in
    let out = left (c, f) in
    let counted : count_by (lies_in level x z) (filter left (cells (squares_in active))) ≡ one_if out * count_by (lies_in level x z) (cells (squares_in active))
    = count_filter (lies_in level x z) left out (cells (squares_in active)) (λ square passed. same square c f (only_square level x z c f square hx hz passed)) in
    let whole = square_count level active x z c f hx hz in
    let held : one_if (contains (squares_in gap) c f) ≡ unit_in d gap x z = square_hit level gap x z c f hx hz in
    split (contains (squares_in gap) c f) (count_by (lies_in level x z) (filter left (cells (squares_in active)))) (unit_in d gap x z) (unit_in d active x z)
    (counted ∙ ap (λ n. one_if out * n) whole) held (hole_in e d finer active x z inner) (in_once d active x z)
  where
    same : (square : ℤ × ℤ) (c f : ℤ) → (square.0 ≡ c) × (square.1 ≡ f) →
        not (contains (squares_in (hole finer)) square.0 square.1) ≡ not (contains (squares_in (hole finer)) c f)
    same square c f at = λ t. not (contains (squares_in (hole finer)) (at.0 t) (at.1 t))

    split : (q : Bool) (n g r : ℕ) → n ≡ one_if (not q) * r → one_if q ≡ g → g ≤ r → r ≤ 1 → n + g ≡ r
    split true n g r en eg low high = omega (arith, en, eg, low, high)
    split false n g r en eg low high = omega (arith, en, eg, low, high)

-- the squares of a hole are those of the finer region
hole_unit : (level : ℕ) (finer : Region) (x z : ℤ) → IsEvenOrEmpty finer → unit_in (2 ^ (level + 1)) (hole finer) x z ≡ unit_in (2 ^ level) finer x z
unfolding unit_in unit_between
hole_unit level finer x z shape =
    elim (cases_Bool (is_empty finer)) [
      | inl none ↦ empty_unit (2 ^ (level + 1)) (hole finer) x z (ap is_empty (hole_of_empty finer none) ∙ empty_is_empty) ∙ sym (empty_unit (2 ^ level) finer x z none)
      | inr some ↦ doubled (has_cell finer some) (even_if_cell finer shape (has_cell finer some))
    ]
  where
    scaled : (a : ℤ) → floor_rem a 2 ≡ 0 → floor_div a 2 *ℤ pos (2 ^ (level + 1)) ≡ a *ℤ pos (2 ^ level)
    scaled a even =
        let twice : 2 ^ (level + 1) ≡ 2 * 2 ^ level = pow-add 2 level 1 ∙ omega arith in
        let whole : a ≡ pos 2 *ℤ floor_div a 2 = half_and_rest a ∙ omega (arith, ints, even) in
        (λ t. floor_div a 2 *ℤ pos (twice t)) ∙ sym (swapped (floor_div a 2) (2 * 2 ^ level)) ∙ sym (twice_times (floor_div a 2) (2 ^ level)) ∙ (λ t. sym whole t *ℤ pos (2 ^ level))

    doubled : HasCell finer → HasEvenCorners finer → unit_in (2 ^ (level + 1)) (hole finer) x z ≡ unit_in (2 ^ level) finer x z
    doubled some even =
        ap (λ r. unit_in (2 ^ (level + 1)) r x z) (hole_is finer some)
        ∙ (λ t. one_if (le_z (scaled finer.x0 even.x0 t) x && lt_z x (scaled finer.x1 even.x1 t)) * one_if (le_z (scaled finer.y0 even.y0 t) z && lt_z z (scaled finer.y1 even.y1 t)))

-- ---- all levels
abbrev last_of : Region → List Region → Region
last_of active [] = active
last_of active (next ∷ coarser) = last_of next coarser

cover_by : (e level : ℕ) (finer active : Region) (coarser : List Region) (x z : ℤ) → AllEvenOrEmpty (active ∷ coarser) → AreNested e (finer ∷ active ∷ coarser) →
    cover_count level finer (active ∷ coarser) x z + unit_in (2 ^ level) (hole finer) x z ≡ unit_in (2 ^ (level + length coarser)) (last_of active coarser) x z
cover_by e level finer active [] x z shapes nested =
    let own = ring_count e level finer active x z nested.0 in
    (λ t. plus_zero (count_by (lies_in level x z) (ring_squares finer active)) t + unit_in (2 ^ level) (hole finer) x z) ∙ own ∙ (λ t. unit_in (2 ^ sym (plus_zero level) t) active x z)
cover_by e level finer active (next ∷ coarser) x z shapes nested =
    let own = ring_count e level finer active x z nested.0 in
    let rest = cover_by e (level + 1) active next coarser x z shapes.1 nested.1 in
    let same = hole_unit level active x z shapes.0 in
    let count : level + 1 + length coarser ≡ level + suc (length coarser) = omega arith in
    together (count_by (lies_in level x z) (ring_squares finer active)) (cover_count (level + 1) active (next ∷ coarser) x z) (unit_in (2 ^ level) (hole finer) x z) (unit_in (2 ^ level) active x z) (unit_in (2 ^ (level + 1)) (hole active) x z) (unit_in (2 ^ (level + 1 + length coarser)) (last_of next coarser) x z) own rest same
    ∙ (λ t. unit_in (2 ^ count t) (last_of next coarser) x z)
  where
    together : (n m g r h u : ℕ) → n + g ≡ r → m + h ≡ u → h ≡ r → n + m + g ≡ u
    together n m g r h u a b c = omega (arith, a, b, c)

last_is : (active : Region) (coarser : List Region) → get_or (active ∷ coarser) (length coarser) empty_region ≡ last_of active coarser
last_is active [] = refl
last_is active (next ∷ coarser) = last_is next coarser

-- where the regions are drawn
pub squares_cover : (e : ℕ) (actives : List Region) → AllEvenOrEmpty actives → AreNested e actives → SquaresCover actives
unfolding covered scaled active_at one_if unit_in unit_between
squares_cover e [] shapes nested x z across along = absurd (nothing x across)
  where
    nothing : (x : ℤ) → (le_z (pos 0 *ℤ pos 1) x && lt_z x (negsuc 0 *ℤ pos 1)) ≡ true → ⊥
    nothing x h =
        let parts : (le_z (pos 0) x ≡ true) × (lt_z x (negsuc 0) ≡ true) = and_parts (le_z (pos 0) x) (lt_z x (negsuc 0)) h in
        omega (arith, ints, parts.0, tested_lt x (negsuc 0) parts.1)
squares_cover e (active ∷ coarser) shapes nested x z across along =
    let all = cover_by e 0 empty_region active coarser x z shapes (from_nothing e (active ∷ coarser) nested) in
    let none : unit_in (2 ^ 0) (hole empty_region) x z ≡ 0 = empty_unit (2 ^ 0) (hole empty_region) x z (ap is_empty no_hole ∙ empty_is_empty) in
    let n : suc (length coarser) - 1 ≡ length coarser = omega arith in
    let last : get_or (active ∷ coarser) (suc (length coarser) - 1) empty_region ≡ last_of active coarser = ap (λ k. get_or (active ∷ coarser) k empty_region) n ∙ last_is active coarser in
    let there : unit_in (2 ^ (suc (length coarser) - 1)) (get_or (active ∷ coarser) (suc (length coarser) - 1) empty_region) x z ≡ 1 = inside (2 ^ (suc (length coarser) - 1)) (get_or (active ∷ coarser) (suc (length coarser) - 1) empty_region) x z across along in
    let moved : unit_in (2 ^ (0 + length coarser)) (last_of active coarser) x z ≡ 1 = (λ t. unit_in (2 ^ sym (shift (length coarser)) t) (sym last t) x z) ∙ there in
    omega (arith, all, none, moved)
  where
    shift : (k : ℕ) → suc k - 1 ≡ 0 + k
    shift k = omega arith

    inside : (d : ℕ) (r : Region) (x z : ℤ) → (le_z (r.x0 *ℤ pos d) x && lt_z x (r.x1 *ℤ pos d)) ≡ true → (le_z (r.y0 *ℤ pos d) z && lt_z z (r.y1 *ℤ pos d)) ≡ true → unit_in d r x z ≡ 1
    inside d r x z a b = λ t. one_if (a t) * one_if (b t)
