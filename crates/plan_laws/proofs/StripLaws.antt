-- The laws of the current strip: where it lies, and where there is none.
use Rattle.std.proofs.Common.{◌≡◌, Bool, true, false, not, cond, ◌&&◌, ℤ, pos, ◌+ℤ◌, ◌≤ℤ◌, List, [], ◌∷◌, Option, Some, None, refl, ap, sym, ◌∙◌, subst, inl, inr, arith}
use Rattle.std.proofs.lemmas.Int.{ints}
use Rattle.std.proofs.lemmas.Bool.{cases_Bool, and_from, and_left, not_from_true, not_from_false, true≢false, false_from_ne_true, not-false}
use Rattle.std.specs.List.{filter}
use Rattle.std.specs.Option.{is_some}
use Rattle.clip_regions.specs.declared.region.Region.{Region}
use Rattle.clip_regions.specs.Regions.{is_empty, holds}
use Rattle.plan_model.specs.Window.{window}
use Rattle.plan_model.specs.Strips.{first_of, has_cell, left_of, right_of, above, below, current_strip}
use Rattle.plan_model.specs.States.{same_region}
use Rattle.plan_model.specs.Laws.{IsFilledIn}
use Rattle.plan_laws.specs.Hulls.{StripsInWindows, StripsUnlessWhole}
use Rattle.plan_laws.proofs.HullLaws.{current_is, whole_strip, within_if_some, within_itself, window_has_cell}
use Rattle.clip_regions.proofs.Cells.{HasCell, has_cell as in_order, not_empty, Within, within, holds_within}
use Rattle.plan_model.proofs.CoverLaws.{four, strips_of_some, strips_of_none}

-- ---- where it lies
record IsPartOf (w s : Region) : Type 0 where
  cells : HasCell s
  inside : Within w s

parts_left : (f w : Region) → Within w f → HasCell f → HasCell (left_of f w) → IsPartOf w (left_of f w)
unfolding left_of
parts_left f w p some h = record { cells = h; inside = record { west = omega (arith, ints); east = omega (arith, ints); north = omega (arith, ints); south = omega (arith, ints) } }

parts_right : (f w : Region) → Within w f → HasCell f → HasCell (right_of f w) → IsPartOf w (right_of f w)
unfolding right_of
parts_right f w p some h = record { cells = h; inside = record { west = omega (arith, ints); east = omega (arith, ints); north = omega (arith, ints); south = omega (arith, ints) } }

parts_above : (f w : Region) → Within w f → HasCell f → HasCell (above f w) → IsPartOf w (above f w)
unfolding above
parts_above f w p some h = record { cells = h; inside = record { west = omega (arith, ints); east = omega (arith, ints); north = omega (arith, ints); south = omega (arith, ints) } }

parts_below : (f w : Region) → Within w f → HasCell f → HasCell (below f w) → IsPartOf w (below f w)
unfolding below
parts_below f w p some h = record { cells = h; inside = record { west = omega (arith, ints); east = omega (arith, ints); north = omega (arith, ints); south = omega (arith, ints) } }

part_of_window : (f w s : Region) → HasCell w → IsFilledIn f w → current_strip f w ≡ Some s → IsPartOf w s
part_of_window f w s some inside c =
    elim (cases_Bool (is_empty f)) [
      | inl e ↦ subst (IsPartOf w) (whole_strip f w s e c) (record { cells = some; inside = within_itself w })
      | inr e ↦
          let p : Within w f = within_if_some f w e inside in
          let cell : HasCell f = in_order f e in
          current_is (IsPartOf w) f w s e c (parts_left f w p cell) (parts_right f w p cell) (parts_above f w p cell) (parts_below f w p cell)
    ]

pub strips_in_windows : StripsInWindows
strips_in_windows k level x y f s inside c =
    let part : IsPartOf (window k level x y) s = part_of_window f (window k level x y) s (window_has_cell k level x y) inside c in
    (not_empty s part.cells, holds_within (window k level x y) s part.inside)

-- ---- where there is none
-- a filled region that holds the window leaves no strip
none_left : (f w : Region) → Within f w → HasCell (left_of f w) → ⊥
unfolding left_of
none_left f w q h = omega (arith, ints)

none_right : (f w : Region) → Within f w → HasCell (right_of f w) → ⊥
unfolding right_of
none_right f w q h = omega (arith, ints)

none_above : (f w : Region) → Within f w → HasCell (above f w) → ⊥
unfolding above
none_above f w q h = omega (arith, ints)

none_below : (f w : Region) → Within f w → HasCell (below f w) → ⊥
unfolding below
none_below f w q h = omega (arith, ints)

no_strip : (f w s : Region) → is_empty f ≡ false → Within f w → current_strip f w ≡ Some s → ⊥
no_strip f w s e q c =
    current_is (λ (_ : Region). ⊥) f w s e c (none_left f w q) (none_right f w q) (none_above f w q) (none_below f w q)

-- where no element passes the test
none_passes : {X : Type 0} (test : X → Bool) (x : X) (xs : List X) → first_of (filter test (x ∷ xs)) ≡ None → (test x ≡ false) × (first_of (filter test xs) ≡ None)
none_passes test x xs e =
    elim (cases_Bool (test x)) [
      | inl t ↦
          let here : first_of (cond true (x ∷ filter test xs) (filter test xs)) ≡ None = subst (λ (b : Bool). first_of (cond b (x ∷ filter test xs) (filter test xs)) ≡ None) t e in
          absurd (cc)
      | inr t ↦ (t, subst (λ (b : Bool). first_of (cond b (x ∷ filter test xs) (filter test xs)) ≡ None) t e)
    ]

no_cell : (r : Region) → has_cell r ≡ false → HasCell r → ⊥
unfolding has_cell
no_cell r e h = true≢false (sym (not-false (is_empty r) e) ∙ not_empty r h)

-- no strip on any side
record NoSides (f w : Region) : Type 0 where
  left : HasCell (left_of f w) → ⊥
  right : HasCell (right_of f w) → ⊥
  up : HasCell (above f w) → ⊥
  down : HasCell (below f w) → ⊥

no_sides : (f w : Region) → is_empty f ≡ false → current_strip f w ≡ None → NoSides f w
unfolding current_strip four
no_sides f w e c =
    let a : (has_cell (left_of f w) ≡ false) × (first_of (filter has_cell (right_of f w ∷ above f w ∷ below f w ∷ [])) ≡ None) = none_passes has_cell (left_of f w) (right_of f w ∷ above f w ∷ below f w ∷ []) (sym (ap first_of (strips_of_some f w e)) ∙ c) in
    let b : (has_cell (right_of f w) ≡ false) × (first_of (filter has_cell (above f w ∷ below f w ∷ [])) ≡ None) = none_passes has_cell (right_of f w) (above f w ∷ below f w ∷ []) a.1 in
    let u : (has_cell (above f w) ≡ false) × (first_of (filter has_cell (below f w ∷ [])) ≡ None) = none_passes has_cell (above f w) (below f w ∷ []) b.1 in
    let d : (has_cell (below f w) ≡ false) × (first_of (filter has_cell []) ≡ None) = none_passes has_cell (below f w) [] u.1 in
    record { left = no_cell (left_of f w) a.0; right = no_cell (right_of f w) b.0; up = no_cell (above f w) u.0; down = no_cell (below f w) d.0 }

by_le : (a b : ℤ) → ((b +ℤ pos 1) ≤ℤ a → ⊥) → a ≤ℤ b
by_le a b h = grind (arith, ints)

holds_window : (f w : Region) → HasCell f → HasCell w → NoSides f w → Within f w
unfolding left_of right_of above below
holds_window f w some cell none = record {
  west = by_le f.x0 w.x0 (λ (h : (w.x0 +ℤ pos 1) ≤ℤ f.x0). none.left (record { across = omega (arith, ints); along = some.along }));
  east = by_le w.x1 f.x1 (λ (h : (f.x1 +ℤ pos 1) ≤ℤ w.x1). none.right (record { across = h; along = some.along }));
  north = by_le f.y0 w.y0 (λ (h : (w.y0 +ℤ pos 1) ≤ℤ f.y0). none.up (record { across = cell.across; along = omega (arith, ints) }));
  south = by_le w.y1 f.y1 (λ (h : (f.y1 +ℤ pos 1) ≤ℤ w.y1). none.down (record { across = cell.across; along = h }));
}

-- ---- both ways
empty_holds_no_cell : (f w : Region) → is_empty f ≡ true → HasCell w → holds f w ≡ true → ⊥
empty_holds_no_cell f w e cell h =
    let p : Within f w = within f w h (not_empty w cell) in
    let larger : HasCell f = record { across = omega (arith, ints); along = omega (arith, ints) } in
    true≢false (sym e ∙ not_empty f larger)

abbrev Same : Region → Region → Bool → Type 0
Same f w b = b ≡ not (same_region f w)

unlike_if_empty : (f w : Region) → is_empty f ≡ true → HasCell w → same_region f w ≡ false
unfolding same_region
unlike_if_empty f w e cell =
    and_left (holds f w) (holds w f) (false_from_ne_true (holds f w) (λ (t : holds f w ≡ true). empty_holds_no_cell f w e cell t))

some_strip : (f w : Region) (o : Option Region) → current_strip f w ≡ o → HasCell w → is_empty f ≡ false → Within w f → is_some o ≡ not (same_region f w)
unfolding same_region
some_strip f w (Some s) c cell e p =
    sym (not_from_false (holds f w && holds w f) (and_left (holds f w) (holds w f) (false_from_ne_true (holds f w) (λ (t : holds f w ≡ true). no_strip f w s e (within f w t (not_empty w cell)) c))))
some_strip f w None c cell e p =
    sym (not_from_true (holds f w && holds w f) (and_from (holds f w) (holds w f) (holds_within f w (holds_window f w (in_order f e) cell (no_sides f w e c))) (holds_within w f p)))

first_strip : (f w : Region) → is_empty f ≡ true → current_strip f w ≡ Some w
unfolding current_strip
first_strip f w e = ap first_of (strips_of_none f w e)

unless_whole : (f w : Region) → HasCell w → IsFilledIn f w → is_some (current_strip f w) ≡ not (same_region f w)
unless_whole f w cell inside =
    elim (cases_Bool (is_empty f)) [
      | inl e ↦ ap is_some (first_strip f w e) ∙ sym (not_from_false (same_region f w) (unlike_if_empty f w e cell))
      | inr e ↦ some_strip f w (current_strip f w) refl cell e (within_if_some f w e inside)
    ]

pub strips_unless_whole : StripsUnlessWhole
strips_unless_whole k level x y f inside = unless_whole f (window k level x y) (window_has_cell k level x y) inside
