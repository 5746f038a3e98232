-- Where the hole of a finer region lies in the coarser one, and which of its cells lie strictly inside.
use Rattle.std.proofs.Common.{◌≡◌, ℕ, ◌≤◌, true, ℤ, pos, ◌+ℤ◌, ◌-ℤ◌, ◌*ℤ◌, ◌≤ℤ◌, ◌<ℤ◌, sym, ◌∙◌, subst, inl, inr, ◌⊎◌, arith}
use Rattle.std.proofs.lemmas.Int.{ints}
use Rattle.std.proofs.lemmas.Bool.{cases_Bool}
use Rattle.clip_regions.specs.declared.region.Region.{Region}
use Rattle.clip_regions.specs.FloorDivision.{floor_div, floor_rem}
use Rattle.clip_regions.specs.Regions.{is_empty, empty_region, erode, holds, HasEvenCorners}
use Rattle.plan_model.specs.Laws.{IsEvenOrEmpty}
use Rattle.mesh_model.specs.Vertices.{hole}
use Rattle.clip_regions.proofs.Cells.{Lies, HasCell, has_cell, not_empty, cell_in, Within, within, larger_has_cell, spelled_same}
use Rattle.mesh_model.proofs.Rectangles.{half_and_rest, hole_of_empty, halved_has_cell, hole_is, hole_needs_cell, eroded, erode_is, IsInner, half_of_some}
use Rattle.plan_model.proofs.ActiveLaws.{even_if_cell}

-- a hole has a cell, or it is spelled as the empty region
pub hole_or_none : (finer : Region) → (hole finer ≡ empty_region) ⊎ HasCell (hole finer)
hole_or_none finer =
    elim (cases_Bool (is_empty finer)) [
      | inl e ↦ inl (hole_of_empty finer e)
      | inr e ↦ inr (subst HasCell (sym (hole_is finer (has_cell finer e))) (halved_has_cell finer (has_cell finer e)))
    ]

-- b lies e cells inside a
pub record IsDeep (e : ℕ) (a b : Region) : Type 0 where
  pub west : (a.x0 +ℤ pos e) ≤ℤ b.x0
  pub east : b.x1 ≤ℤ (a.x1 -ℤ pos e)
  pub north : (a.y0 +ℤ pos e) ≤ℤ b.y0
  pub south : b.y1 ≤ℤ (a.y1 -ℤ pos e)

deep_eroded : (a b : Region) (e : ℕ) → holds (erode a (pos e)) b ≡ true → HasCell b → IsDeep e a b
unfolding eroded
deep_eroded a b e h some =
    let w : Within (erode a (pos e)) b = within (erode a (pos e)) b h (not_empty b some) in
    let larger : HasCell (erode a (pos e)) = larger_has_cell (erode a (pos e)) b w some in
    let plain : erode a (pos e) ≡ eroded a e = erode_is a e ∙ spelled_same (eroded a e) (subst HasCell (erode_is a e) larger) in
    let v : Within (eroded a e) b = subst (λ (q : Region). Within q b) plain w in
    record { west = v.west; east = v.east; north = v.north; south = v.south }

-- the hole lies e cells inside the coarser region
pub hole_deep : (e : ℕ) (finer coarser : Region) → IsInner e finer coarser → HasCell (hole finer) → IsDeep e coarser (hole finer)
hole_deep e finer coarser inner some =
    let cell : HasCell finer = hole_needs_cell finer some in
    let held : holds (erode coarser (pos e)) (hole finer) ≡ true =
    subst (λ (q : Region). holds (erode coarser (pos e)) q ≡ true) (half_of_some finer cell) (inner (not_empty finer cell)) in
    deep_eroded coarser (hole finer) e held some

-- strictly inside a region
pub record IsAmid (r : Region) (i j : ℤ) : Type 0 where
  pub west : r.x0 <ℤ i
  pub east : i <ℤ r.x1
  pub north : r.y0 <ℤ j
  pub south : j <ℤ r.y1

-- a cell of the hole that a region's own hole has is strictly inside
pub amid_hole : (e : ℕ) (finer active : Region) (i j : ℤ) → 1 ≤ e → IsEvenOrEmpty active → IsInner e finer active →
    Lies (hole active) i j → Lies (hole finer) (pos 2 *ℤ i) (pos 2 *ℤ j) → IsAmid (hole active) i j
amid_hole e finer active i j some_margin shape inner l deep =
    let some : HasCell active = hole_needs_cell active (cell_in (hole active) i j l) in
    let even : HasEvenCorners active = even_if_cell active shape some in
    let d : IsDeep e active (hole finer) = hole_deep e finer active inner (cell_in (hole finer) (pos 2 *ℤ i) (pos 2 *ℤ j) deep) in
    let wx0 : active.x0 ≡ pos 2 *ℤ floor_div active.x0 2 +ℤ pos (floor_rem active.x0 2) = half_and_rest active.x0 in
    let wx1 : active.x1 ≡ pos 2 *ℤ floor_div active.x1 2 +ℤ pos (floor_rem active.x1 2) = half_and_rest active.x1 in
    let wy0 : active.y0 ≡ pos 2 *ℤ floor_div active.y0 2 +ℤ pos (floor_rem active.y0 2) = half_and_rest active.y0 in
    let wy1 : active.y1 ≡ pos 2 *ℤ floor_div active.y1 2 +ℤ pos (floor_rem active.y1 2) = half_and_rest active.y1 in
    subst (λ (q : Region). IsAmid q i j) (sym (hole_is active some)) (record {
      west = omega (arith, ints, even.x0, wx0, d.west, deep.west, some_margin);
      east = omega (arith, ints, even.x1, wx1, d.east, deep.east, some_margin);
      north = omega (arith, ints, even.y0, wy0, d.north, deep.north, some_margin);
      south = omega (arith, ints, even.y1, wy1, d.south, deep.south, some_margin);
    })
