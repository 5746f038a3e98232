-- The laws of strips: they cover the window, and the first of them grows the filled region to a rectangle.
use Rattle.std.proofs.Common.{◌≡◌, ℕ, ◌+◌, ◌*◌, Bool, true, false, cond, ◌&&◌, ◌||◌, ℤ, pos, ◌+ℤ◌, ◌-ℤ◌, ◌≤ℤ◌, ◌<ℤ◌, List, [], ◌∷◌, Some, refl, ap, sym, ◌∙◌, subst, inl, inr, arith, zero-add}
use Rattle.std.proofs.lemmas.Int.{ints, clamps}
use Rattle.std.proofs.lemmas.Bool.{cases_Bool, not-false, not-true, or_cases}
use Rattle.std.proofs.lemmas.List.Sums.{sum_by-append}
use Rattle.std.proofs.Math.Bool.{and-or_distrib_right, and-or_distrib_left}
use Rattle.std.specs.List.{filter, count_by}
use Rattle.std.specs.Int.{int_min, int_max}
use mathlib.Core.Path.{ap₂}
use lib.Signed.{lt_z, le_z}
use Rattle.clip_regions.specs.declared.region.Region.{Region}
use Rattle.clip_regions.specs.Regions.{contains, is_empty}
use Rattle.plan_model.specs.Strips.{first_of, has_cell, left_of, right_of, above, below, strips, current_strip, hull}
use Rattle.plan_model.specs.Laws.{StripsPartition, GrowsToRectangle}
use Rattle.clip_regions.proofs.Cells.{HasCell, has_cell as in_order, not_empty, none_in_empty, same_corners, Within, within, tested_lt}

-- ---- counts
-- 1 where the test passes, else 0
abbrev pub one_if : Bool → ℕ
one_if b = cond b 1 0

pub count_cons : {X : Type 0} (p : X → Bool) (x : X) (xs : List X) → count_by p (x ∷ xs) ≡ one_if (p x) + count_by p xs
count_cons p x xs =
    sum_by-append (λ y. cond (p y) 1 0) (x ∷ []) xs ∙ ap (λ (n : ℕ). n + count_by p xs) (zero-add (one_if (p x)))

pub one_and : (x y : Bool) → one_if (x && y) ≡ one_if x * one_if y
one_and true y = omega arith
one_and false y = omega arith

no_cell : (r : Region) → has_cell r ≡ false → is_empty r ≡ true
unfolding has_cell
no_cell r e = not-false (is_empty r) e

none_there : (r : Region) (i j : ℤ) → has_cell r ≡ false → contains r i j ≡ false
none_there r i j e = none_in_empty r i j (no_cell r e)

-- regions without a cell count for nothing
count_kept : (i j : ℤ) (rs : List Region) → count_by (λ r. contains r i j) (filter has_cell rs) ≡ count_by (λ r. contains r i j) rs
count_kept i j [] = refl
count_kept i j (r ∷ rs) =
    elim (cases_Bool (has_cell r)) [
      | inl e ↦ ap (λ (b : Bool). count_by (λ (q : Region). contains q i j) (cond b (r ∷ filter has_cell rs) (filter has_cell rs))) e ∙ count_cons (λ (q : Region). contains q i j) r (filter has_cell rs) ∙ ap (λ (n : ℕ). one_if (contains r i j) + n) (count_kept i j rs) ∙ sym (count_cons (λ (q : Region). contains q i j) r rs)
      | inr e ↦ ap (λ (b : Bool). count_by (λ (q : Region). contains q i j) (cond b (r ∷ filter has_cell rs) (filter has_cell rs))) e ∙ count_kept i j rs ∙ sym (count_cons (λ (q : Region). contains q i j) r rs ∙ ap (λ (b : Bool). one_if b + count_by (λ (q : Region). contains q i j) rs) (none_there r i j e) ∙ zero-add (count_by (λ (q : Region). contains q i j) rs))
    ]

-- ---- one axis: a number lies before, in or after the inner part
axis : (w0 f0 f1 w1 i : ℤ) → w0 ≤ℤ f0 → f0 ≤ℤ f1 → f1 ≤ℤ w1 → one_if (le_z w0 i && le_z i (f0 -ℤ pos 1)) + one_if (le_z f0 i && le_z i f1) + one_if (le_z (f1 +ℤ pos 1) i && le_z i w1) ≡ one_if (le_z w0 i && le_z i w1)
axis w0 f0 f1 w1 i p q r = grind (arith, ints)

add_up : (a b c w a' b' c' w' : ℕ) → a + b + c ≡ w → a' + b' + c' ≡ w' → b * b' + (a * b' + (c * b' + (w * a' + (w * c' + 0)))) ≡ w * w'
add_up a b c w a' b' c' w' e e' =
    let middle : (a + b + c) * b' ≡ w * b' = ap (λ (n : ℕ). n * b') e in
    let whole : w * (a' + b' + c') ≡ w * w' = ap (λ (n : ℕ). w * n) e' in
    omega (arith, middle, whole)

-- whether a cell lies in a region, as a product of two axes
across : Region → ℤ → ℕ
across r i = one_if (le_z r.x0 i && le_z i r.x1)

along : Region → ℤ → ℕ
along r j = one_if (le_z r.y0 j && le_z j r.y1)

cell_is : (r : Region) (i j : ℤ) → one_if (contains r i j) ≡ across r i * along r j
unfolding contains across along
cell_is r i j = one_and (le_z r.x0 i && le_z i r.x1) (le_z r.y0 j && le_z j r.y1)

count_one : (i j : ℤ) (r : Region) (rs : List Region) → count_by (λ q. contains q i j) (r ∷ rs) ≡ across r i * along r j + count_by (λ q. contains q i j) rs
count_one i j r rs =
    count_cons (λ (q : Region). contains q i j) r rs ∙ ap (λ (n : ℕ). n + count_by (λ (q : Region). contains q i j) rs) (cell_is r i j)

-- five regions of a list
count_five : (i j : ℤ) (a b c d e : Region) → count_by (λ r. contains r i j) (a ∷ b ∷ c ∷ d ∷ e ∷ []) ≡ across a i * along a j + (across b i * along b j + (across c i * along c j + (across d i * along d j + (across e i * along e j + 0))))
count_five i j a b c d e =
    count_one i j a (b ∷ c ∷ d ∷ e ∷ []) ∙ ap (λ (n : ℕ). across a i * along a j + n) (count_one i j b (c ∷ d ∷ e ∷ []) ∙ ap (λ (n : ℕ). across b i * along b j + n) (count_one i j c (d ∷ e ∷ []) ∙ ap (λ (n : ℕ). across c i * along c j + n) (count_one i j d (e ∷ []) ∙ ap (λ (n : ℕ). across d i * along d j + n) (count_one i j e []))))

-- ---- the strips cover the window
unfoldable pub four : Region → Region → List Region
four f w = left_of f w ∷ right_of f w ∷ above f w ∷ below f w ∷ []

pub strips_of_some : (f w : Region) → is_empty f ≡ false → strips f w ≡ filter has_cell (four f w)
unfolding strips four
strips_of_some f w e =
    ap (λ (b : Bool). cond b (w ∷ []) (filter has_cell (left_of f w ∷ right_of f w ∷ above f w ∷ below f w ∷ []))) e

pub strips_of_none : (f w : Region) → is_empty f ≡ true → strips f w ≡ w ∷ []
unfolding strips
strips_of_none f w e =
    ap (λ (b : Bool). cond b (w ∷ []) (filter has_cell (left_of f w ∷ right_of f w ∷ above f w ∷ below f w ∷ []))) e

sum_of_parts : (f w : Region) (i j : ℤ) → Within w f → HasCell f → count_by (λ r. contains r i j) (f ∷ four f w) ≡ one_if (contains w i j)
unfolding four left_of right_of above below across along
sum_of_parts f w i j inside some =
    count_five i j f (left_of f w) (right_of f w) (above f w) (below f w) ∙ add_up (one_if (le_z w.x0 i && le_z i (f.x0 -ℤ pos 1))) (one_if (le_z f.x0 i && le_z i f.x1)) (one_if (le_z (f.x1 +ℤ pos 1) i && le_z i w.x1)) (one_if (le_z w.x0 i && le_z i w.x1)) (one_if (le_z w.y0 j && le_z j (f.y0 -ℤ pos 1))) (one_if (le_z f.y0 j && le_z j f.y1)) (one_if (le_z (f.y1 +ℤ pos 1) j && le_z j w.y1)) (one_if (le_z w.y0 j && le_z j w.y1)) (axis w.x0 f.x0 f.x1 w.x1 i inside.west some.across inside.east) (axis w.y0 f.y0 f.y1 w.y1 j inside.north some.along inside.south) ∙ sym (cell_is w i j)

count_some : (f w : Region) (i j : ℤ) → Within w f → is_empty f ≡ false → count_by (λ r. contains r i j) (f ∷ strips f w) ≡ one_if (contains w i j)
count_some f w i j inside e =
    ap (λ (rs : List Region). count_by (λ (r : Region). contains r i j) (f ∷ rs)) (strips_of_some f w e) ∙ count_cons (λ (r : Region). contains r i j) f (filter has_cell (four f w)) ∙ ap (λ (n : ℕ). one_if (contains f i j) + n) (count_kept i j (four f w)) ∙ sym (count_cons (λ (r : Region). contains r i j) f (four f w)) ∙ sum_of_parts f w i j inside (in_order f e)

single : (n : ℕ) → 0 + (n + 0) ≡ n
single n = omega arith

count_none : (f w : Region) (i j : ℤ) → is_empty f ≡ true → count_by (λ r. contains r i j) (f ∷ strips f w) ≡ one_if (contains w i j)
count_none f w i j e =
    ap (λ (rs : List Region). count_by (λ (r : Region). contains r i j) (f ∷ rs)) (strips_of_none f w e) ∙ count_cons (λ (r : Region). contains r i j) f (w ∷ []) ∙ ap₂ (λ (b : Bool) (n : ℕ). one_if b + n) (none_in_empty f i j e) (count_cons (λ (r : Region). contains r i j) w []) ∙ single (one_if (contains w i j))

pub strips_partition : StripsPartition
strips_partition f w (inl e) i j = count_none f w i j e
strips_partition f w (inr h) i j =
    elim (cases_Bool (is_empty f)) [
      | inl e ↦ count_none f w i j e
      | inr e ↦ count_some f w i j (within w f h e) e
    ]

-- ---- the first strip and the filled region are one rectangle
-- a number of a longer interval lies in its inner or its outer part, which is before or after the inner one
joined_before : (s0 f0 f1 i : ℤ) → s0 ≤ℤ f0 → f0 ≤ℤ f1 → (le_z s0 i && le_z i f1) ≡ ((le_z f0 i && le_z i f1) || (le_z s0 i && le_z i (f0 -ℤ pos 1)))
joined_before s0 f0 f1 i p q = grind (arith, ints)

joined_after : (f0 f1 s1 i : ℤ) → f0 ≤ℤ f1 → f1 ≤ℤ s1 → (le_z f0 i && le_z i s1) ≡ ((le_z f0 i && le_z i f1) || (le_z (f1 +ℤ pos 1) i && le_z i s1))
joined_after f0 f1 s1 i p q = grind (arith, ints)

-- what the join of f and s has to be, on the cells
abbrev IsJoin : Region → Region → Type 0
IsJoin f s = (i j : ℤ) → contains (hull f s) i j ≡ (contains f i j || contains s i j)

hull_of_some : (f s : Region) → is_empty f ≡ false → is_empty s ≡ false → hull f s ≡ record { x0 = int_min f.x0 s.x0; y0 = int_min f.y0 s.y0; x1 = int_max f.x1 s.x1; y1 = int_max f.y1 s.y1 }
unfolding hull
hull_of_some f s e d = rw (e, d) refl

-- the hull of a filled region and a strip at its side, by the corners that it has
rectangle : ℤ → ℤ → ℤ → ℤ → Region
rectangle west north east south = record { x0 = west; y0 = north; x1 = east; y1 = south }

hull_left : (f w : Region) → w.x0 ≤ℤ f.x0 → HasCell f → is_empty (left_of f w) ≡ false → hull f (left_of f w) ≡ rectangle w.x0 f.y0 f.x1 f.y1
unfolding left_of rectangle
hull_left f w p some e =
    hull_of_some f (left_of f w) (not_empty f some) e ∙ same_corners _ (rectangle w.x0 f.y0 f.x1 f.y1) (omega (arith, ints, clamps)) (omega (arith, ints, clamps)) (omega (arith, ints, clamps)) (omega (arith, ints, clamps))

hull_right : (f w : Region) → f.x1 ≤ℤ w.x1 → HasCell f → is_empty (right_of f w) ≡ false → hull f (right_of f w) ≡ rectangle f.x0 f.y0 w.x1 f.y1
unfolding right_of rectangle
hull_right f w p some e =
    hull_of_some f (right_of f w) (not_empty f some) e ∙ same_corners _ (rectangle f.x0 f.y0 w.x1 f.y1) (omega (arith, ints, clamps)) (omega (arith, ints, clamps)) (omega (arith, ints, clamps)) (omega (arith, ints, clamps))

-- the filled region reaches from the window's west end to its east end
record IsWide (f w : Region) : Type 0 where
  west : f.x0 ≡ w.x0
  east : f.x1 ≡ w.x1

hull_above : (f w : Region) → IsWide f w → w.y0 ≤ℤ f.y0 → HasCell f → is_empty (above f w) ≡ false → hull f (above f w) ≡ rectangle f.x0 w.y0 f.x1 f.y1
unfolding above rectangle
hull_above f w wide p some e =
    hull_of_some f (above f w) (not_empty f some) e ∙ same_corners _ (rectangle f.x0 w.y0 f.x1 f.y1) (omega (arith, ints, clamps)) (omega (arith, ints, clamps)) (omega (arith, ints, clamps)) (omega (arith, ints, clamps))

hull_below : (f w : Region) → IsWide f w → f.y1 ≤ℤ w.y1 → HasCell f → is_empty (below f w) ≡ false → hull f (below f w) ≡ rectangle f.x0 f.y0 f.x1 w.y1
unfolding below rectangle
hull_below f w wide p some e =
    hull_of_some f (below f w) (not_empty f some) e ∙ same_corners _ (rectangle f.x0 f.y0 f.x1 w.y1) (omega (arith, ints, clamps)) (omega (arith, ints, clamps)) (omega (arith, ints, clamps)) (omega (arith, ints, clamps))

-- the cells of those rectangles
join_left : (f w : Region) (i j : ℤ) → w.x0 ≤ℤ f.x0 → f.x0 ≤ℤ f.x1 → contains (rectangle w.x0 f.y0 f.x1 f.y1) i j ≡ (contains f i j || contains (left_of f w) i j)
unfolding contains left_of rectangle
join_left f w i j p q =
    ap (λ (b : Bool). b && (le_z f.y0 j && le_z j f.y1)) (joined_before w.x0 f.x0 f.x1 i p q) ∙ and-or_distrib_right (le_z f.x0 i && le_z i f.x1) (le_z w.x0 i && le_z i (f.x0 -ℤ pos 1)) (le_z f.y0 j && le_z j f.y1)

join_right : (f w : Region) (i j : ℤ) → f.x1 ≤ℤ w.x1 → f.x0 ≤ℤ f.x1 → contains (rectangle f.x0 f.y0 w.x1 f.y1) i j ≡ (contains f i j || contains (right_of f w) i j)
unfolding contains right_of rectangle
join_right f w i j p q =
    ap (λ (b : Bool). b && (le_z f.y0 j && le_z j f.y1)) (joined_after f.x0 f.x1 w.x1 i q p) ∙ and-or_distrib_right (le_z f.x0 i && le_z i f.x1) (le_z (f.x1 +ℤ pos 1) i && le_z i w.x1) (le_z f.y0 j && le_z j f.y1)

wide_columns : (f w : Region) (i : ℤ) → IsWide f w → (le_z f.x0 i && le_z i f.x1) ≡ (le_z w.x0 i && le_z i w.x1)
wide_columns f w i wide = ap₂ (λ (a b : ℤ). le_z a i && le_z i b) wide.west wide.east

join_above : (f w : Region) (i j : ℤ) → IsWide f w → w.y0 ≤ℤ f.y0 → f.y0 ≤ℤ f.y1 → contains (rectangle f.x0 w.y0 f.x1 f.y1) i j ≡ (contains f i j || contains (above f w) i j)
unfolding contains above rectangle
join_above f w i j wide p q =
    ap (λ (b : Bool). (le_z f.x0 i && le_z i f.x1) && b) (joined_before w.y0 f.y0 f.y1 j p q) ∙ and-or_distrib_left (le_z f.x0 i && le_z i f.x1) (le_z f.y0 j && le_z j f.y1) (le_z w.y0 j && le_z j (f.y0 -ℤ pos 1)) ∙ ap (λ (b : Bool). ((le_z f.x0 i && le_z i f.x1) && (le_z f.y0 j && le_z j f.y1)) || (b && (le_z w.y0 j && le_z j (f.y0 -ℤ pos 1)))) (wide_columns f w i wide)

join_below : (f w : Region) (i j : ℤ) → IsWide f w → f.y1 ≤ℤ w.y1 → f.y0 ≤ℤ f.y1 → contains (rectangle f.x0 f.y0 f.x1 w.y1) i j ≡ (contains f i j || contains (below f w) i j)
unfolding contains below rectangle
join_below f w i j wide p q =
    ap (λ (b : Bool). (le_z f.x0 i && le_z i f.x1) && b) (joined_after f.y0 f.y1 w.y1 j q p) ∙ and-or_distrib_left (le_z f.x0 i && le_z i f.x1) (le_z f.y0 j && le_z j f.y1) (le_z (f.y1 +ℤ pos 1) j && le_z j w.y1) ∙ ap (λ (b : Bool). ((le_z f.x0 i && le_z i f.x1) && (le_z f.y0 j && le_z j f.y1)) || (b && (le_z (f.y1 +ℤ pos 1) j && le_z j w.y1))) (wide_columns f w i wide)

-- where there is no strip on a side, the filled region reaches the window's end
no_left : (f w : Region) → HasCell f → Within w f → is_empty (left_of f w) ≡ true → f.x0 ≡ w.x0
unfolding is_empty left_of
no_left f w some inside e =
    elim (or_cases (lt_z (f.x0 -ℤ pos 1) w.x0) (lt_z f.y1 f.y0) e) [
      | inl h ↦ let less : (f.x0 -ℤ pos 1) <ℤ w.x0 = tested_lt (f.x0 -ℤ pos 1) w.x0 h in omega (arith, ints)
      | inr h ↦ let less : f.y1 <ℤ f.y0 = tested_lt f.y1 f.y0 h in omega (arith, ints)
    ]

no_right : (f w : Region) → HasCell f → Within w f → is_empty (right_of f w) ≡ true → f.x1 ≡ w.x1
unfolding is_empty right_of
no_right f w some inside e =
    elim (or_cases (lt_z w.x1 (f.x1 +ℤ pos 1)) (lt_z f.y1 f.y0) e) [
      | inl h ↦ let less : w.x1 <ℤ (f.x1 +ℤ pos 1) = tested_lt w.x1 (f.x1 +ℤ pos 1) h in omega (arith, ints)
      | inr h ↦ let less : f.y1 <ℤ f.y0 = tested_lt f.y1 f.y0 h in omega (arith, ints)
    ]

some_there : (r : Region) → has_cell r ≡ true → is_empty r ≡ false
unfolding has_cell
some_there r e = not-true (is_empty r) e

-- the join with each of the four
left_joins : (f w : Region) → HasCell f → Within w f → has_cell (left_of f w) ≡ true → IsJoin f (left_of f w)
left_joins f w some inside e i j =
    ap (λ (r : Region). contains r i j) (hull_left f w inside.west some (some_there (left_of f w) e)) ∙ join_left f w i j inside.west some.across

right_joins : (f w : Region) → HasCell f → Within w f → has_cell (right_of f w) ≡ true → IsJoin f (right_of f w)
right_joins f w some inside e i j =
    ap (λ (r : Region). contains r i j) (hull_right f w inside.east some (some_there (right_of f w) e)) ∙ join_right f w i j inside.east some.across

above_joins : (f w : Region) → HasCell f → Within w f → IsWide f w → has_cell (above f w) ≡ true → IsJoin f (above f w)
above_joins f w some inside wide e i j =
    ap (λ (r : Region). contains r i j) (hull_above f w wide inside.north some (some_there (above f w) e)) ∙ join_above f w i j wide inside.north some.along

below_joins : (f w : Region) → HasCell f → Within w f → IsWide f w → has_cell (below f w) ≡ true → IsJoin f (below f w)
below_joins f w some inside wide e i j =
    ap (λ (r : Region). contains r i j) (hull_below f w wide inside.south some (some_there (below f w) e)) ∙ join_below f w i j wide inside.south some.along

-- what is true of each element that passes the test is true of the first, in a list of four, where the earlier ones failed
some_same : {s t : Region} → Some s ≡ Some t → s ≡ t
some_same e = cc

first_kept : (P : Region → Type 0) (r : Region) (rs : List Region) (s : Region) → first_of (filter has_cell (r ∷ rs)) ≡ Some s → (has_cell r ≡ true → P r) → (has_cell r ≡ false → first_of (filter has_cell rs) ≡ Some s → P s) → P s
first_kept P r rs s e here later =
    elim (cases_Bool (has_cell r)) [
      | inl t ↦ subst P (some_same (sym (ap (λ (b : Bool). first_of (cond b (r ∷ filter has_cell rs) (filter has_cell rs))) t) ∙ e)) (here t)
      | inr t ↦ later t (sym (ap (λ (b : Bool). first_of (cond b (r ∷ filter has_cell rs) (filter has_cell rs))) t) ∙ e)
    ]

none_first : (P : Type 0) (s : Region) → first_of (filter has_cell []) ≡ Some s → P
none_first P s e = cc

wide_joins : (f w s : Region) → HasCell f → Within w f → IsWide f w → first_of (filter has_cell (above f w ∷ below f w ∷ [])) ≡ Some s → IsJoin f s
wide_joins f w s some inside wide e =
    first_kept (IsJoin f) (above f w) (below f w ∷ []) s e (λ (h : has_cell (above f w) ≡ true). above_joins f w some inside wide h) (λ (na : has_cell (above f w) ≡ false). λ (e2 : first_of (filter has_cell (below f w ∷ [])) ≡ Some s). first_kept (IsJoin f) (below f w) [] s e2 (λ (h : has_cell (below f w) ≡ true). below_joins f w some inside wide h) (λ (nb : has_cell (below f w) ≡ false). λ (e3 : first_of (filter has_cell []) ≡ Some s). none_first (IsJoin f s) s e3))

joins_some : (f w s : Region) → HasCell f → Within w f → first_of (filter has_cell (four f w)) ≡ Some s → IsJoin f s
unfolding four
joins_some f w s some inside e =
    first_kept (IsJoin f) (left_of f w) (right_of f w ∷ above f w ∷ below f w ∷ []) s e (λ (h : has_cell (left_of f w) ≡ true). left_joins f w some inside h) (λ (nl : has_cell (left_of f w) ≡ false). λ (e2 : first_of (filter has_cell (right_of f w ∷ above f w ∷ below f w ∷ [])) ≡ Some s). first_kept (IsJoin f) (right_of f w) (above f w ∷ below f w ∷ []) s e2 (λ (h : has_cell (right_of f w) ≡ true). right_joins f w some inside h) (λ (nr : has_cell (right_of f w) ≡ false). λ (e3 : first_of (filter has_cell (above f w ∷ below f w ∷ [])) ≡ Some s). wide_joins f w s some inside (record { west = no_left f w some inside (no_cell (left_of f w) nl); east = no_right f w some inside (no_cell (right_of f w) nr) }) e3))

hull_of_none : (f s : Region) → is_empty f ≡ true → hull f s ≡ s
unfolding hull
hull_of_none f s e = rw e refl

joins_none : (f s : Region) → is_empty f ≡ true → IsJoin f s
joins_none f s e i j =
    ap (λ (r : Region). contains r i j) (hull_of_none f s e) ∙ sym (ap (λ (b : Bool). b || contains s i j) (none_in_empty f i j e))

joins_within : (f w s : Region) → is_empty f ≡ false → Within w f → current_strip f w ≡ Some s → IsJoin f s
unfolding current_strip
joins_within f w s e inside c = joins_some f w s (in_order f e) inside (sym (ap first_of (strips_of_some f w e)) ∙ c)

pub grows_to_rectangle : GrowsToRectangle
grows_to_rectangle f w s (inl e) c i j = joins_none f s e i j
grows_to_rectangle f w s (inr h) c i j =
    elim (cases_Bool (is_empty f)) [
      | inl e ↦ joins_none f s e i j
      | inr e ↦ joins_within f w s e (within w f h e) c i j
    ]
