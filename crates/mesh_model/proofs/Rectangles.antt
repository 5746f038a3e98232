-- Which cells a region, its half and the hole that it leaves in the next coarser region have.
use Rattle.std.proofs.Common.{◌≡◌, ℕ, ◌<◌, true, false, ℤ, pos, negsuc, ◌+ℤ◌, ◌-ℤ◌, ◌*ℤ◌, ◌≤ℤ◌, ◌<ℤ◌, refl, ap, sym, ◌∙◌, subst, inl, inr, arith}
use Rattle.std.proofs.lemmas.Int.{ints}
use Rattle.std.proofs.lemmas.Bool.{cases_Bool, true≢false, false_from_ne_true}
use lib.Signed.{le_z}
use Rattle.clip_regions.specs.declared.region.Region.{Region}
use Rattle.clip_regions.specs.FloorDivision.{floor_div, floor_rem}
use Rattle.clip_regions.specs.Regions.{contains, is_empty, empty_region, spelled, erode, halve, holds, HasEvenCorners}
use Rattle.plan_model.specs.Laws.{IsEvenOrEmpty}
use Rattle.mesh_model.specs.Vertices.{hole}
use Rattle.clip_regions.proofs.Cells.{HasCell, has_cell, not_empty, empty_is_empty, spelled_other, lies, Lies, cell_in, Within, within, larger_has_cell, spelled_same}
use Rattle.plan_model.proofs.ActiveLaws.{even_if_cell}

-- ---- tests on signed numbers
pub not_le_tested : (a b : ℤ) → b <ℤ a → le_z a b ≡ false
not_le_tested a b h = grind (arith, ints)

-- ---- cells
-- an empty region has no cell
pub none_in : (P : Type 0) (r : Region) → is_empty r ≡ true → HasCell r → P
none_in P r e some = absurd (true≢false (sym e ∙ not_empty r some))

pub none_there : (r : Region) (i j : ℤ) → is_empty r ≡ true → contains r i j ≡ false
none_there r i j e = false_from_ne_true (contains r i j) (λ t. none_in ⊥ r e (cell_in r i j (lies r i j t)))

-- ---- halves
pub rem_below : (z : ℤ) → floor_rem z 2 < 2
unfolding floor_rem
rem_below (pos n) = omega arith
rem_below (negsuc n) = omega arith

pub half_and_rest : (z : ℤ) → z ≡ pos 2 *ℤ floor_div z 2 +ℤ pos (floor_rem z 2)
unfolding floor_div floor_rem
half_and_rest (pos n) = omega (arith, ints)
half_and_rest (negsuc n) = omega (arith, ints)

-- the region with each corner halved
abbrev pub halved : Region → Region
halved r = record { x0 = floor_div r.x0 2; y0 = floor_div r.y0 2; x1 = floor_div r.x1 2; y1 = floor_div r.y1 2 }

halve_is : (r : Region) → halve r ≡ spelled (halved r)
unfolding halve
halve_is r = refl

pub half_order : (a b : ℤ) → a ≤ℤ b → floor_div a 2 ≤ℤ floor_div b 2
half_order a b h =
    let ra : floor_rem a 2 < 2 = rem_below a in
    let rb : floor_rem b 2 < 2 = rem_below b in
    let wa : a ≡ pos 2 *ℤ floor_div a 2 +ℤ pos (floor_rem a 2) = half_and_rest a in
    let wb : b ≡ pos 2 *ℤ floor_div b 2 +ℤ pos (floor_rem b 2) = half_and_rest b in
    omega (arith, ints)

half_at_least : (a i : ℤ) → a ≤ℤ (pos 2 *ℤ i) → floor_div a 2 ≤ℤ i
half_at_least a i h =
    let ra : floor_rem a 2 < 2 = rem_below a in
    let wa : a ≡ pos 2 *ℤ floor_div a 2 +ℤ pos (floor_rem a 2) = half_and_rest a in
    omega (arith, ints)

half_at_most : (a i : ℤ) → (pos 2 *ℤ i) ≤ℤ a → i ≤ℤ floor_div a 2
half_at_most a i h =
    let ra : floor_rem a 2 < 2 = rem_below a in
    let wa : a ≡ pos 2 *ℤ floor_div a 2 +ℤ pos (floor_rem a 2) = half_and_rest a in
    omega (arith, ints)

twice_from : (a i : ℤ) → floor_rem a 2 ≡ 0 → floor_div a 2 ≤ℤ i → a ≤ℤ (pos 2 *ℤ i)
twice_from a i e h =
    let wa : a ≡ pos 2 *ℤ floor_div a 2 +ℤ pos (floor_rem a 2) = half_and_rest a in
    omega (arith, ints)

twice_to : (a i : ℤ) → i ≤ℤ floor_div a 2 → (pos 2 *ℤ i) ≤ℤ a
twice_to a i h =
    let wa : a ≡ pos 2 *ℤ floor_div a 2 +ℤ pos (floor_rem a 2) = half_and_rest a in
    omega (arith, ints)

-- ---- the hole
pub hole_of_empty : (finer : Region) → is_empty finer ≡ true → hole finer ≡ empty_region
unfolding hole
hole_of_empty finer e = rw e refl

pub halved_has_cell : (r : Region) → HasCell r → HasCell (halved r)
halved_has_cell r some = record { across = half_order r.x0 r.x1 some.across; along = half_order r.y0 r.y1 some.along }

-- the hole of a region that has a cell is the region with each corner halved
pub hole_is : (finer : Region) → HasCell finer → hole finer ≡ halved finer
unfolding hole
hole_is finer some =
    let half : halve finer ≡ halved finer = halve_is finer ∙ spelled_other (halved finer) (not_empty (halved finer) (halved_has_cell finer some)) in
    rw (not_empty finer some) half

pub no_hole : hole empty_region ≡ empty_region
no_hole = hole_of_empty empty_region empty_is_empty

-- an empty region leaves no hole
pub hole_needs_cell : (finer : Region) → HasCell (hole finer) → HasCell finer
hole_needs_cell finer some =
    elim (cases_Bool (is_empty finer)) [
      | inl e ↦ none_in (HasCell finer) (hole finer) (ap is_empty (hole_of_empty finer e) ∙ empty_is_empty) some
      | inr e ↦ has_cell finer e
    ]

-- twice a cell of the hole is a cell of the finer region
pub from_hole : (finer : Region) (i j : ℤ) → IsEvenOrEmpty finer → Lies (hole finer) i j → Lies finer (pos 2 *ℤ i) (pos 2 *ℤ j)
from_hole finer i j shape h =
    let some : HasCell finer = hole_needs_cell finer (cell_in (hole finer) i j h) in
    let even : HasEvenCorners finer = even_if_cell finer shape some in
    let half : Lies (halved finer) i j = subst (λ (q : Region). Lies q i j) (hole_is finer some) h in
    record {
      west = twice_from finer.x0 i even.x0 half.west;
      east = twice_to finer.x1 i half.east;
      north = twice_from finer.y0 j even.y0 half.north;
      south = twice_to finer.y1 j half.south;
    }

-- a cell whose double is a cell of the finer region lies in the hole
pub into_hole : (finer : Region) (i j : ℤ) → Lies finer (pos 2 *ℤ i) (pos 2 *ℤ j) → Lies (hole finer) i j
into_hole finer i j h =
    let some : HasCell finer = cell_in finer (pos 2 *ℤ i) (pos 2 *ℤ j) h in
    let half : Lies (halved finer) i j =
    record { west = half_at_least finer.x0 i h.west; east = half_at_most finer.x1 i h.east; north = half_at_least finer.y0 j h.north; south = half_at_most finer.y1 j h.south } in
    subst (λ (q : Region). Lies q i j) (sym (hole_is finer some)) half

-- the region with each end moved inwards by e
unfoldable pub eroded : Region → ℕ → Region
eroded r e = record { x0 = r.x0 +ℤ pos e; y0 = r.y0 +ℤ pos e; x1 = r.x1 -ℤ pos e; y1 = r.y1 -ℤ pos e }

pub erode_is : (r : Region) (e : ℕ) → erode r (pos e) ≡ spelled (eroded r e)
unfolding erode eroded
erode_is r e = refl

uneroded : (r b : Region) (e : ℕ) → Within (eroded r e) b → Within r b
unfolding eroded
uneroded r b e w = record { west = omega (arith, ints); east = omega (arith, ints); north = omega (arith, ints); south = omega (arith, ints) }

within_eroded : (a b : Region) (e : ℕ) → holds (erode a (pos e)) b ≡ true → HasCell b → Within a b
within_eroded a b e h some =
    let w : Within (erode a (pos e)) b = within (erode a (pos e)) b h (not_empty b some) in
    let larger : HasCell (erode a (pos e)) = larger_has_cell (erode a (pos e)) b w some in
    let plain : erode a (pos e) ≡ eroded a e = erode_is a e ∙ spelled_same (eroded a e) (subst HasCell (erode_is a e) larger) in
    uneroded a b e (subst (λ (q : Region). Within q b) plain w)

-- half of the finer region, where it isn't empty, lies e cells inside the coarser one
abbrev pub IsInner : ℕ → Region → Region → Type 0
IsInner e finer coarser = is_empty finer ≡ false → holds (erode coarser (pos e)) (halve finer) ≡ true

pub half_of_some : (finer : Region) → HasCell finer → halve finer ≡ hole finer
unfolding hole
half_of_some finer some = rw (not_empty finer some) refl

-- the hole lies in the coarser region
pub hole_within : (e : ℕ) (finer coarser : Region) → IsInner e finer coarser → HasCell (hole finer) → Within coarser (hole finer)
hole_within e finer coarser inner some =
    let cell : HasCell finer = hole_needs_cell finer some in
    let held : holds (erode coarser (pos e)) (hole finer) ≡ true =
    subst (λ (q : Region). holds (erode coarser (pos e)) q ≡ true) (half_of_some finer cell) (inner (not_empty finer cell)) in
    within_eroded coarser (hole finer) e held some
