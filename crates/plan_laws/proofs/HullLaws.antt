-- The law of a filled region that grows: what it becomes with each of the four strips at its sides.
use Rattle.std.proofs.Common.{◌≡◌, ℕ, true, false, ℤ, [], ◌∷◌, Some, refl, ap, sym, ◌∙◌, subst, inl, inr, arith}
use Rattle.std.proofs.lemmas.Int.{ints, clamps}
use Rattle.std.proofs.lemmas.Bool.{not-true, true≢false}
use Rattle.std.proofs.lemmas.List.Elements.{All-nil, All-cons}
use Rattle.std.specs.Int.{int_min, int_max}
use Rattle.clip_regions.specs.declared.region.Region.{Region}
use Rattle.clip_regions.specs.Regions.{is_empty, holds, HasEvenCorners}
use Rattle.plan_model.specs.Window.{window}
use Rattle.plan_model.specs.Strips.{first_of, has_cell, left_of, right_of, above, below, current_strip, hull}
use Rattle.plan_model.specs.Sound.{IsInside, IsEvenInside}
use Rattle.plan_model.specs.Laws.{IsFilledIn, EvenWindows}
use Rattle.plan_laws.specs.Hulls.{InsideIsHeld, PartsAreFilledIn, HullsAreEvenInside}
use Rattle.plan_laws.proofs.Lists.{first_passes}
use Rattle.clip_regions.proofs.Cells.{HasCell, has_cell as in_order, not_empty, same_corners, empty_is_empty, Within, within, holds_within}
use Rattle.plan_model.proofs.CoverLaws.{four, strips_of_some, strips_of_none}

-- ---- the strips
pub some_there : (r : Region) → has_cell r ≡ true → is_empty r ≡ false
unfolding has_cell
some_there r e = not-true (is_empty r) e

-- what is true of each of the four strips, where it has a cell, is true of the current one
pub current_is : (P : Region → Type 0) (f w s : Region) → is_empty f ≡ false → current_strip f w ≡ Some s → ((HasCell (left_of f w)) → P (left_of f w)) → ((HasCell (right_of f w)) → P (right_of f w)) → ((HasCell (above f w)) → P (above f w)) → ((HasCell (below f w)) → P (below f w)) → P s
unfolding current_strip four
current_is P f w s e c left right up down =
    let at : (r : Region) → (HasCell r → P r) → has_cell r ≡ true → P r = λ (r : Region) (each : HasCell r → P r) (t : has_cell r ≡ true). each (in_order r (some_there r t)) in
    first_passes P has_cell (four f w) s (All-cons (λ (r : Region). has_cell r ≡ true → P r) (left_of f w) (right_of f w ∷ above f w ∷ below f w ∷ []) (at (left_of f w) left) (All-cons (λ (r : Region). has_cell r ≡ true → P r) (right_of f w) (above f w ∷ below f w ∷ []) (at (right_of f w) right) (All-cons (λ (r : Region). has_cell r ≡ true → P r) (above f w) (below f w ∷ []) (at (above f w) up) (All-cons (λ (r : Region). has_cell r ≡ true → P r) (below f w) [] (at (below f w) down) (All-nil (λ (r : Region). has_cell r ≡ true → P r)))))) (sym (ap first_of (strips_of_some f w e)) ∙ c)

-- ---- hulls
hull_of_some : (f s : Region) → HasCell f → HasCell s → hull f s ≡ record { x0 = int_min f.x0 s.x0; y0 = int_min f.y0 s.y0; x1 = int_max f.x1 s.x1; y1 = int_max f.y1 s.y1 }
unfolding hull
hull_of_some f s a b =
    let e : is_empty f ≡ false = not_empty f a in
    let d : is_empty s ≡ false = not_empty s b in
    rw (e, d) refl

pub hull_of_none : (f s : Region) → is_empty f ≡ true → hull f s ≡ s
unfolding hull
hull_of_none f s e = rw e refl

-- the hull, by the corners that it has
unfoldable pub rectangle : ℤ → ℤ → ℤ → ℤ → Region
rectangle west north east south = record { x0 = west; y0 = north; x1 = east; y1 = south }

pub hull_left : (f w : Region) → Within w f → HasCell f → HasCell (left_of f w) → hull f (left_of f w) ≡ rectangle w.x0 f.y0 f.x1 f.y1
unfolding left_of rectangle
hull_left f w p some h =
    hull_of_some f (left_of f w) some h ∙ same_corners _ (rectangle w.x0 f.y0 f.x1 f.y1) (omega (arith, ints, clamps)) (omega (arith, ints, clamps)) (omega (arith, ints, clamps)) (omega (arith, ints, clamps))

pub hull_right : (f w : Region) → Within w f → HasCell f → HasCell (right_of f w) → hull f (right_of f w) ≡ rectangle f.x0 f.y0 w.x1 f.y1
unfolding right_of rectangle
hull_right f w p some h =
    hull_of_some f (right_of f w) some h ∙ same_corners _ (rectangle f.x0 f.y0 w.x1 f.y1) (omega (arith, ints, clamps)) (omega (arith, ints, clamps)) (omega (arith, ints, clamps)) (omega (arith, ints, clamps))

pub hull_above : (f w : Region) → Within w f → HasCell f → HasCell (above f w) → hull f (above f w) ≡ rectangle w.x0 w.y0 w.x1 f.y1
unfolding above rectangle
hull_above f w p some h =
    hull_of_some f (above f w) some h ∙ same_corners _ (rectangle w.x0 w.y0 w.x1 f.y1) (omega (arith, ints, clamps)) (omega (arith, ints, clamps)) (omega (arith, ints, clamps)) (omega (arith, ints, clamps))

pub hull_below : (f w : Region) → Within w f → HasCell f → HasCell (below f w) → hull f (below f w) ≡ rectangle w.x0 f.y0 w.x1 w.y1
unfolding below rectangle
hull_below f w p some h =
    hull_of_some f (below f w) some h ∙ same_corners _ (rectangle w.x0 f.y0 w.x1 w.y1) (omega (arith, ints, clamps)) (omega (arith, ints, clamps)) (omega (arith, ints, clamps)) (omega (arith, ints, clamps))

-- ---- even parts
inside_from : (w r : Region) → HasCell r → Within w r → IsInside w r
inside_from w r some inside = record { west = inside.west; columns = some.across; east = inside.east; north = inside.north; rows = some.along; south = inside.south }

pub cell_inside : (w r : Region) → IsInside w r → HasCell r
cell_inside w r h = record { across = h.columns; along = h.rows }

pub within_inside : (w r : Region) → IsInside w r → Within w r
within_inside w r h = record { west = h.west; east = h.east; north = h.north; south = h.south }

part_from : (w r : Region) → HasCell r → HasEvenCorners r → Within w r → IsEvenInside w r
part_from w r some even inside = record { inside = inside_from w r some inside; even = even }

grown_left : (f w : Region) → HasEvenCorners w → HasEvenCorners f → Within w f → HasCell f → HasCell (left_of f w) → IsEvenInside w (hull f (left_of f w))
unfolding rectangle
grown_left f w ew ef p some h =
    subst (IsEvenInside w) (sym (hull_left f w p some h)) (part_from w (rectangle w.x0 f.y0 f.x1 f.y1) (record { across = omega (arith, ints); along = omega (arith, ints) }) (record { x0 = ew.x0; y0 = ef.y0; x1 = ef.x1; y1 = ef.y1 }) (record { west = omega (arith, ints); east = omega (arith, ints); north = omega (arith, ints); south = omega (arith, ints) }))

grown_right : (f w : Region) → HasEvenCorners w → HasEvenCorners f → Within w f → HasCell f → HasCell (right_of f w) → IsEvenInside w (hull f (right_of f w))
unfolding rectangle
grown_right f w ew ef p some h =
    subst (IsEvenInside w) (sym (hull_right f w p some h)) (part_from w (rectangle f.x0 f.y0 w.x1 f.y1) (record { across = omega (arith, ints); along = omega (arith, ints) }) (record { x0 = ef.x0; y0 = ef.y0; x1 = ew.x1; y1 = ef.y1 }) (record { west = omega (arith, ints); east = omega (arith, ints); north = omega (arith, ints); south = omega (arith, ints) }))

grown_above : (f w : Region) → HasEvenCorners w → HasEvenCorners f → Within w f → HasCell f → HasCell (above f w) → IsEvenInside w (hull f (above f w))
unfolding rectangle
grown_above f w ew ef p some h =
    subst (IsEvenInside w) (sym (hull_above f w p some h)) (part_from w (rectangle w.x0 w.y0 w.x1 f.y1) (record { across = omega (arith, ints); along = omega (arith, ints) }) (record { x0 = ew.x0; y0 = ew.y0; x1 = ew.x1; y1 = ef.y1 }) (record { west = omega (arith, ints); east = omega (arith, ints); north = omega (arith, ints); south = omega (arith, ints) }))

grown_below : (f w : Region) → HasEvenCorners w → HasEvenCorners f → Within w f → HasCell f → HasCell (below f w) → IsEvenInside w (hull f (below f w))
unfolding rectangle
grown_below f w ew ef p some h =
    subst (IsEvenInside w) (sym (hull_below f w p some h)) (part_from w (rectangle w.x0 f.y0 w.x1 w.y1) (record { across = omega (arith, ints); along = omega (arith, ints) }) (record { x0 = ew.x0; y0 = ef.y0; x1 = ew.x1; y1 = ew.y1 }) (record { west = omega (arith, ints); east = omega (arith, ints); north = omega (arith, ints); south = omega (arith, ints) }))

grown_some : (f w s : Region) → HasEvenCorners w → HasEvenCorners f → Within w f → is_empty f ≡ false → current_strip f w ≡ Some s → IsEvenInside w (hull f s)
grown_some f w s ew ef p e c =
    let some : HasCell f = in_order f e in
    current_is (λ (r : Region). IsEvenInside w (hull f r)) f w s e c (grown_left f w ew ef p some) (grown_right f w ew ef p some) (grown_above f w ew ef p some) (grown_below f w ew ef p some)

pub some_same : {s t : Region} → Some s ≡ Some t → s ≡ t
some_same e = cc

pub whole_strip : (f w s : Region) → is_empty f ≡ true → current_strip f w ≡ Some s → w ≡ s
unfolding current_strip
whole_strip f w s e c = some_same (sym (ap first_of (strips_of_none f w e)) ∙ c)

pub within_itself : (w : Region) → Within w w
within_itself w = record { west = omega (arith, ints); east = omega (arith, ints); north = omega (arith, ints); south = omega (arith, ints) }

grown_none : (f w s : Region) → HasEvenCorners w → HasCell w → is_empty f ≡ true → current_strip f w ≡ Some s → IsEvenInside w (hull f s)
grown_none f w s ew some e c =
    subst (IsEvenInside w) (whole_strip f w s e c ∙ sym (hull_of_none f s e)) (part_from w w some ew (within_itself w))

pub within_if_some : (f w : Region) → is_empty f ≡ false → IsFilledIn f w → Within w f
within_if_some f w e (inl t) = absurd (true≢false (sym t ∙ e))
within_if_some f w e (inr h) = within w f h e

pub window_has_cell : (k level : ℕ) (x y : ℤ) → HasCell (window k level x y)
unfolding window
window_has_cell k level x y = record { across = omega (arith, ints); along = omega (arith, ints) }

pub hulls_are_even_inside : EvenWindows → HullsAreEvenInside
hulls_are_even_inside law k level x y f s h (inl e) c =
    grown_none f (window k level x y) s (law k level x y h) (window_has_cell k level x y) (ap is_empty e ∙ empty_is_empty) c
hulls_are_even_inside law k level x y f s h (inr part) c =
    grown_some f (window k level x y) s (law k level x y h) part.even (within_inside (window k level x y) f part.inside) (not_empty f (cell_inside (window k level x y) f part.inside)) c

-- ---- parts of a window
pub inside_is_held : InsideIsHeld
inside_is_held w r =
    (λ (h : IsInside w r). (not_empty r (cell_inside w r h), holds_within w r (within_inside w r h)), λ (h : (is_empty r ≡ false) × (holds w r ≡ true)). inside_from w r (in_order r h.0) (within w r h.1 h.0))

pub parts_are_filled_in : PartsAreFilledIn
parts_are_filled_in w f (inl e) = inl (ap is_empty e ∙ empty_is_empty)
parts_are_filled_in w f (inr part) = inr (holds_within w f (within_inside w f part.inside))
