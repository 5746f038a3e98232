-- The laws of how many cells pieces, filled regions and strips have.
use Rattle.std.proofs.Common.{◌≡◌, ℕ, ◌+◌, ◌-◌, ◌*◌, ◌<◌, ◌≤◌, Bool, true, false, cond, ℤ, pos, ◌+ℤ◌, ◌-ℤ◌, ◌*ℤ◌, ◌≤ℤ◌, ◌<ℤ◌, List, [], ◌∷◌, length, Some, refl, ap, sym, ◌∙◌, subst, inl, inr, arith, zero-add}
use Rattle.std.proofs.lemmas.Int.{ints, clamps}
use Rattle.std.proofs.lemmas.Bool.{cases_Bool, or_cases, not-false}
use Rattle.std.proofs.Math.Nat.{add-mul, mul-add, mul-le-mul_left, mul-le-mul_right}
use Rattle.std.specs.List.{filter}
use Rattle.std.specs.Int.{int_gap}
use mathlib.Core.Path.{ap₂}
use lib.Signed.{lt_z}
use Rattle.clip_regions.specs.declared.region.Region.{Region}
use Rattle.clip_regions.specs.FloorDivision.{floor_div, floor_rem}
use Rattle.clip_regions.specs.Regions.{is_empty, empty_region, meet, columns, rows, area}
use Rattle.plan_model.specs.Window.{window}
use Rattle.plan_model.specs.Strips.{first_of, has_cell, left_of, right_of, above, below, current_strip, hull, pieces}
use Rattle.plan_model.specs.States.{filled_at, window_at}
use Rattle.plan_model.specs.Rounds.{unfilled_cells}
use Rattle.plan_model.specs.Laws.{IsFilledIn}
use Rattle.plan_laws.specs.Pieces.{blocks_between}
use Rattle.plan_laws.specs.Areas.{RegionsHavePieces, PiecesAreNoMoreThanCells, HeldHaveNoMoreCells, HullsAddStrips, UnfilledCells}
use Rattle.plan_laws.proofs.CountLaws.{count_rows}
use Rattle.plan_laws.proofs.HullLaws.{some_there, within_if_some, hull_left, hull_right, hull_above, hull_below, hull_of_none, some_same, rectangle}
use Rattle.clip_regions.proofs.Quotients.{rem_below, quotient_and_rest}
use Rattle.clip_regions.proofs.Cells.{HasCell, has_cell as in_order, Within, within, same_corners, tested_lt, spelled_empty, spelled_other, empty_is_empty, both, meet_is}
use Rattle.plan_model.proofs.PieceLaws.{pieces_some, pieces_none}
use Rattle.plan_model.proofs.CoverLaws.{four, strips_of_some}
use Rattle.clip_regions.proofs.Sizes.{gap_is, columns_are, rows_are, no_area}

-- ---- columns and rows
area_is : (r : Region) → area r ≡ columns r * rows r
unfolding area
area_is r = refl

times_le : (a b c d : ℕ) → a ≤ c → b ≤ d → a * b ≤ c * d
times_le a b c d h k =
    let left : a * b ≤ c * b = mul-le-mul_right b h in
    let right : c * b ≤ c * d = mul-le-mul_left c k in
    omega arith

-- ---- pieces and cells
blocks_at_most : (first last : ℤ) (n : ℕ) → first ≤ℤ last → pos n ≡ last +ℤ pos 1 -ℤ first → blocks_between first last ≤ n
unfolding blocks_between
blocks_at_most first last n h e =
    let ra : floor_rem first 8 < 8 = rem_below first 8 (omega arith) in
    let rb : floor_rem last 8 < 8 = rem_below last 8 (omega arith) in
    let wa : first ≡ pos 8 *ℤ floor_div first 8 +ℤ pos (floor_rem first 8) = quotient_and_rest first 8 (omega arith) in
    let wb : last ≡ pos 8 *ℤ floor_div last 8 +ℤ pos (floor_rem last 8) = quotient_and_rest last 8 (omega arith) in
    let count : pos (int_gap (floor_div first 8) (floor_div last 8 +ℤ pos 1)) ≡ floor_div last 8 +ℤ pos 1 -ℤ floor_div first 8 = gap_is (floor_div first 8) (floor_div last 8 +ℤ pos 1) (omega (arith, ints)) in
    omega (arith, ints)

some_block : (first last : ℤ) → first ≤ℤ last → 1 ≤ blocks_between first last
unfolding blocks_between
some_block first last h =
    let ra : floor_rem first 8 < 8 = rem_below first 8 (omega arith) in
    let rb : floor_rem last 8 < 8 = rem_below last 8 (omega arith) in
    let wa : first ≡ pos 8 *ℤ floor_div first 8 +ℤ pos (floor_rem first 8) = quotient_and_rest first 8 (omega arith) in
    let wb : last ≡ pos 8 *ℤ floor_div last 8 +ℤ pos (floor_rem last 8) = quotient_and_rest last 8 (omega arith) in
    let count : pos (int_gap (floor_div first 8) (floor_div last 8 +ℤ pos 1)) ≡ floor_div last 8 +ℤ pos 1 -ℤ floor_div first 8 = gap_is (floor_div first 8) (floor_div last 8 +ℤ pos 1) (omega (arith, ints)) in
    omega (arith, ints)

count_of : (r : Region) → is_empty r ≡ false → length (pieces r) ≡ blocks_between r.x0 r.x1 * blocks_between r.y0 r.y1
count_of r e = ap length (pieces_some r e) ∙ count_rows r

pub regions_have_pieces : RegionsHavePieces
regions_have_pieces r e =
    let some : HasCell r = in_order r e in
    let many : 1 ≤ blocks_between r.x0 r.x1 * blocks_between r.y0 r.y1 = times_le 1 1 (blocks_between r.x0 r.x1) (blocks_between r.y0 r.y1) (some_block r.x0 r.x1 some.across) (some_block r.y0 r.y1 some.along) in
    subst (λ (n : ℕ). 1 ≤ n) (sym (count_of r e)) many

few_pieces : (r : Region) → HasCell r → blocks_between r.x0 r.x1 * blocks_between r.y0 r.y1 ≤ area r
few_pieces r some =
    subst (λ (n : ℕ). blocks_between r.x0 r.x1 * blocks_between r.y0 r.y1 ≤ n) (sym (area_is r)) (times_le (blocks_between r.x0 r.x1) (blocks_between r.y0 r.y1) (columns r) (rows r) (blocks_at_most r.x0 r.x1 (columns r) some.across (columns_are r some)) (blocks_at_most r.y0 r.y1 (rows r) some.along (rows_are r some)))

pub pieces_are_no_more_than_cells : PiecesAreNoMoreThanCells
pieces_are_no_more_than_cells r =
    elim (cases_Bool (is_empty r)) [
      | inl e ↦ let none : length (pieces r) ≡ 0 = ap length (pieces_none r e) in omega arith
      | inr e ↦ subst (λ (n : ℕ). n ≤ area r) (sym (count_of r e)) (few_pieces r (in_order r e))
    ]

-- ---- held regions
held_area : (a b : Region) → Within a b → HasCell b → area b ≤ area a
unfolding area
held_area a b w some =
    let larger : HasCell a = record { across = omega (arith, ints); along = omega (arith, ints) } in
    let ca : pos (columns a) ≡ a.x1 +ℤ pos 1 -ℤ a.x0 = columns_are a larger in
    let cb : pos (columns b) ≡ b.x1 +ℤ pos 1 -ℤ b.x0 = columns_are b some in
    let ra : pos (rows a) ≡ a.y1 +ℤ pos 1 -ℤ a.y0 = rows_are a larger in
    let rb : pos (rows b) ≡ b.y1 +ℤ pos 1 -ℤ b.y0 = rows_are b some in
    times_le (columns b) (rows b) (columns a) (rows a) (omega (arith, ints)) (omega (arith, ints))

pub held_have_no_more_cells : HeldHaveNoMoreCells
held_have_no_more_cells a b h =
    elim (cases_Bool (is_empty b)) [
      | inl e ↦ let none : area b ≡ 0 = no_area b e in omega arith
      | inr e ↦ held_area a b (within a b h e) (in_order b e)
    ]

-- ---- two regions side by side
-- b is beside a where c is the two together: in one row each, or in one column
record InOneRow (a b c : Region) : Type 0 where
  a_some : HasCell a
  b_some : HasCell b
  c_some : HasCell c
  width : (c.x1 -ℤ c.x0) ≡ a.x1 -ℤ a.x0 +ℤ (b.x1 -ℤ b.x0) +ℤ pos 1
  a_height : (a.y1 -ℤ a.y0) ≡ c.y1 -ℤ c.y0
  b_height : (b.y1 -ℤ b.y0) ≡ c.y1 -ℤ c.y0

record InOneColumn (a b c : Region) : Type 0 where
  a_some : HasCell a
  b_some : HasCell b
  c_some : HasCell c
  height : (c.y1 -ℤ c.y0) ≡ a.y1 -ℤ a.y0 +ℤ (b.y1 -ℤ b.y0) +ℤ pos 1
  a_width : (a.x1 -ℤ a.x0) ≡ c.x1 -ℤ c.x0
  b_width : (b.x1 -ℤ b.x0) ≡ c.x1 -ℤ c.x0

-- the numbers of columns and rows of the three
record Sides (a b c : Region) : Type 0 where
  ca : pos (columns a) ≡ a.x1 +ℤ pos 1 -ℤ a.x0
  cb : pos (columns b) ≡ b.x1 +ℤ pos 1 -ℤ b.x0
  cc' : pos (columns c) ≡ c.x1 +ℤ pos 1 -ℤ c.x0
  ra : pos (rows a) ≡ a.y1 +ℤ pos 1 -ℤ a.y0
  rb : pos (rows b) ≡ b.y1 +ℤ pos 1 -ℤ b.y0
  rc : pos (rows c) ≡ c.y1 +ℤ pos 1 -ℤ c.y0

sides : (a b c : Region) → HasCell a → HasCell b → HasCell c → Sides a b c
sides a b c p q r = record { ca = columns_are a p; cb = columns_are b q; cc' = columns_are c r; ra = rows_are a p; rb = rows_are b q; rc = rows_are c r }

row_adds : (a b c : Region) → InOneRow a b c → area c ≡ area a + area b
unfolding area
row_adds a b c h =
    let s : Sides a b c = sides a b c h.a_some h.b_some h.c_some in
    let wide : columns c ≡ columns a + columns b = omega (arith, ints) in
    let same_a : rows c ≡ rows a = omega (arith, ints) in
    let same_b : rows c ≡ rows b = omega (arith, ints) in
    ap (λ (n : ℕ). n * rows c) wide ∙ add-mul (columns a) (columns b) (rows c) ∙ ap₂ (λ (m n : ℕ). columns a * m + columns b * n) same_a same_b

column_adds : (a b c : Region) → InOneColumn a b c → area c ≡ area a + area b
unfolding area
column_adds a b c h =
    let s : Sides a b c = sides a b c h.a_some h.b_some h.c_some in
    let high : rows c ≡ rows a + rows b = omega (arith, ints) in
    let same_a : columns c ≡ columns a = omega (arith, ints) in
    let same_b : columns c ≡ columns b = omega (arith, ints) in
    ap (λ (n : ℕ). columns c * n) high ∙ mul-add (columns c) (rows a) (rows b) ∙ ap₂ (λ (m n : ℕ). m * rows a + n * rows b) same_a same_b

-- ---- hulls
abbrev Adds : Region → Region → Type 0
Adds f s = area (hull f s) ≡ area f + area s

adds_left : (f w : Region) → Within w f → HasCell f → HasCell (left_of f w) → Adds f (left_of f w)
unfolding rectangle left_of
adds_left f w p some h =
    ap area (hull_left f w p some h) ∙ row_adds f (left_of f w) (rectangle w.x0 f.y0 f.x1 f.y1) (record { a_some = some; b_some = h; c_some = record { across = omega (arith, ints); along = some.along }; width = omega (arith, ints); a_height = refl; b_height = refl })

adds_right : (f w : Region) → Within w f → HasCell f → HasCell (right_of f w) → Adds f (right_of f w)
unfolding rectangle right_of
adds_right f w p some h =
    ap area (hull_right f w p some h) ∙ row_adds f (right_of f w) (rectangle f.x0 f.y0 w.x1 f.y1) (record { a_some = some; b_some = h; c_some = record { across = omega (arith, ints); along = some.along }; width = omega (arith, ints); a_height = refl; b_height = refl })

-- the filled region reaches from the window's west end to its east end
record IsWide (f w : Region) : Type 0 where
  west : f.x0 ≡ w.x0
  east : f.x1 ≡ w.x1

adds_above : (f w : Region) → Within w f → HasCell f → IsWide f w → HasCell (above f w) → Adds f (above f w)
unfolding rectangle above
adds_above f w p some wide h =
    ap area (hull_above f w p some h) ∙ column_adds f (above f w) (rectangle w.x0 w.y0 w.x1 f.y1) (record { a_some = some; b_some = h; c_some = record { across = omega (arith, ints); along = omega (arith, ints) }; height = omega (arith, ints); a_width = omega (arith, ints); b_width = refl })

adds_below : (f w : Region) → Within w f → HasCell f → IsWide f w → HasCell (below f w) → Adds f (below f w)
unfolding rectangle below
adds_below f w p some wide h =
    ap area (hull_below f w p some h) ∙ column_adds f (below f w) (rectangle w.x0 f.y0 w.x1 w.y1) (record { a_some = some; b_some = h; c_some = record { across = omega (arith, ints); along = omega (arith, ints) }; height = omega (arith, ints); a_width = omega (arith, ints); b_width = refl })

-- where there is no strip on a side, the filled region reaches the window's end
no_left : (f w : Region) → HasCell f → Within w f → has_cell (left_of f w) ≡ false → f.x0 ≡ w.x0
unfolding has_cell is_empty left_of
no_left f w some inside e =
    elim (or_cases (lt_z (f.x0 -ℤ pos 1) w.x0) (lt_z f.y1 f.y0) (not-false _ e)) [
      | inl h ↦ let less : (f.x0 -ℤ pos 1) <ℤ w.x0 = tested_lt (f.x0 -ℤ pos 1) w.x0 h in omega (arith, ints)
      | inr h ↦ let less : f.y1 <ℤ f.y0 = tested_lt f.y1 f.y0 h in omega (arith, ints)
    ]

no_right : (f w : Region) → HasCell f → Within w f → has_cell (right_of f w) ≡ false → f.x1 ≡ w.x1
unfolding has_cell is_empty right_of
no_right f w some inside e =
    elim (or_cases (lt_z w.x1 (f.x1 +ℤ pos 1)) (lt_z f.y1 f.y0) (not-false _ e)) [
      | inl h ↦ let less : w.x1 <ℤ (f.x1 +ℤ pos 1) = tested_lt w.x1 (f.x1 +ℤ pos 1) h in omega (arith, ints)
      | inr h ↦ let less : f.y1 <ℤ f.y0 = tested_lt f.y1 f.y0 h in omega (arith, ints)
    ]

-- the first of a list that has a cell is this one, or a later one where this has none
first_kept : (P : Region → Type 0) (r : Region) (rs : List Region) (s : Region) → first_of (filter has_cell (r ∷ rs)) ≡ Some s → (HasCell r → P r) → (has_cell r ≡ false → first_of (filter has_cell rs) ≡ Some s → P s) → P s
first_kept P r rs s e here later =
    elim (cases_Bool (has_cell r)) [
      | inl t ↦ subst P (some_same (sym (ap (λ (b : Bool). first_of (cond b (r ∷ filter has_cell rs) (filter has_cell rs))) t) ∙ e)) (here (in_order r (some_there r t)))
      | inr t ↦ later t (sym (ap (λ (b : Bool). first_of (cond b (r ∷ filter has_cell rs) (filter has_cell rs))) t) ∙ e)
    ]

none_first : (P : Type 0) (s : Region) → first_of (filter has_cell []) ≡ Some s → P
none_first P s e = cc

adds_wide : (f w s : Region) → Within w f → HasCell f → IsWide f w → first_of (filter has_cell (above f w ∷ below f w ∷ [])) ≡ Some s → Adds f s
adds_wide f w s p some wide e =
    first_kept (Adds f) (above f w) (below f w ∷ []) s e (adds_above f w p some wide) (λ na e2. first_kept (Adds f) (below f w) [] s e2 (adds_below f w p some wide) (λ nb e3. none_first (Adds f s) s e3))

adds_some : (f w s : Region) → Within w f → HasCell f → first_of (filter has_cell (four f w)) ≡ Some s → Adds f s
unfolding four
adds_some f w s p some e =
    first_kept (Adds f) (left_of f w) (right_of f w ∷ above f w ∷ below f w ∷ []) s e (adds_left f w p some) (λ nl e2. first_kept (Adds f) (right_of f w) (above f w ∷ below f w ∷ []) s e2 (adds_right f w p some) (λ nr e3. adds_wide f w s p some (record { west = no_left f w some p nl; east = no_right f w some p nr }) e3))

adds_none : (f s : Region) → is_empty f ≡ true → Adds f s
adds_none f s e =
    ap area (hull_of_none f s e) ∙ sym (zero-add (area s)) ∙ ap (λ (n : ℕ). n + area s) (sym (no_area f e))

pub hulls_add_strips : HullsAddStrips
unfolding current_strip
hulls_add_strips k level x y f s inside c =
    elim (cases_Bool (is_empty f)) [
      | inl e ↦ adds_none f s e
      | inr e ↦ adds_some f (window k level x y) s (within_if_some f (window k level x y) e inside) (in_order f e) (sym (ap first_of (strips_of_some f (window k level x y) e)) ∙ c)
    ]

-- ---- unfilled cells
met_whole : (w f : Region) → Within w f → both w f ≡ f
unfolding both
met_whole w f p =
    same_corners _ f (omega (arith, ints, clamps)) (omega (arith, ints, clamps)) (omega (arith, ints, clamps)) (omega (arith, ints, clamps))

met_empty : (w f : Region) → is_empty f ≡ true → is_empty (both w f) ≡ true
unfolding both is_empty
met_empty w f e = grind (arith, ints)

met_area : (w f : Region) → IsFilledIn f w → area (meet w f) ≡ area f
met_area w f inside =
    elim (cases_Bool (is_empty f)) [
      | inl e ↦ ap area (meet_is w f ∙ spelled_empty (both w f) (met_empty w f e)) ∙ no_area empty_region empty_is_empty ∙ sym (no_area f e)
      | inr e ↦
          let same : both w f ≡ f = met_whole w f (within_if_some f w e inside) in
          ap area (meet_is w f ∙ spelled_other (both w f) (ap is_empty same ∙ e) ∙ same)
    ]

filled_few : (f w : Region) → IsFilledIn f w → area f ≤ area w
filled_few f w (inl e) = let none : area f ≡ 0 = no_area f e in omega arith
filled_few f w (inr h) = held_have_no_more_cells w f h

rest_of : (w m f : ℕ) → m ≡ f → f ≤ w → w - m + f ≡ w
rest_of w m f e h = omega arith

pub unfilled_cells_are_the_rest : UnfilledCells
unfolding unfilled_cells
unfilled_cells_are_the_rest st level inside =
    rest_of (area (window_at st level)) (area (meet (window_at st level) (filled_at st level))) (area (filled_at st level)) (met_area (window_at st level) (filled_at st level) inside) (filled_few (filled_at st level) (window_at st level) inside)
