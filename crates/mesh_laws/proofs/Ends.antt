-- The two coarser cells between which a cell lies are cells of the coarser active region.
use Rattle.std.proofs.Common.{◌≡◌, ℕ, ◌+◌, ◌<◌, true, List, ℤ, pos, ◌+ℤ◌, ◌*ℤ◌, ◌≤ℤ◌, length, sym, subst, arith}
use Rattle.std.proofs.lemmas.Int.{ints}
use Rattle.clip_regions.specs.declared.region.Region.{Region}
use Rattle.clip_regions.specs.FloorDivision.{floor_div, floor_rem}
use Rattle.clip_regions.specs.Regions.{contains, HasEvenCorners}
use Rattle.plan_model.specs.Window.{margin}
use Rattle.mesh_model.specs.Height.{active_at, lower_end, upper_end}
use Rattle.mesh_model.specs.Vertices.{hole}
use Rattle.active_region.specs.Active.{AreActive}
use Rattle.mesh_laws.proofs.Sizes.{even_of, inner_of}
use Rattle.clip_regions.proofs.Cells.{Lies, lies, lying, HasCell, cell_in, Within}
use Rattle.mesh_model.proofs.Rectangles.{hole_within, hole_is, half_order, half_and_rest, rem_below, halved}
use Rattle.plan_model.proofs.ActiveLaws.{even_if_cell}

-- the cell after, halved, lies no farther than the last corner halved, which is even
half_after : (i b : ℤ) → floor_rem b 2 ≡ 0 → i ≤ℤ b → floor_div (i +ℤ pos 1) 2 ≤ℤ floor_div b 2
half_after i b even h =
    let wb : b ≡ pos 2 *ℤ floor_div b 2 +ℤ pos (floor_rem b 2) = half_and_rest b in
    let wi : i +ℤ pos 1 ≡ pos 2 *ℤ floor_div (i +ℤ pos 1) 2 +ℤ pos (floor_rem (i +ℤ pos 1) 2) = half_and_rest (i +ℤ pos 1) in
    let ri : floor_rem (i +ℤ pos 1) 2 < 2 = rem_below (i +ℤ pos 1) in
    omega (arith, ints)

one_more : (a i : ℤ) → a ≤ℤ i → a ≤ℤ (i +ℤ pos 1)
one_more a i h = omega (arith, ints)

lower_in : (r : Region) (i j : ℤ) → Lies r i j → Lies (halved r) (lower_end i) (lower_end j)
unfolding lower_end
lower_in r i j l = record {
  west = half_order r.x0 i l.west;
  east = half_order i r.x1 l.east;
  north = half_order r.y0 j l.north;
  south = half_order j r.y1 l.south;
}

upper_in : (r : Region) (i j : ℤ) → HasEvenCorners r → Lies r i j → Lies (halved r) (upper_end i) (upper_end j)
unfolding upper_end
upper_in r i j even l = record {
  west = half_order r.x0 (i +ℤ pos 1) (one_more r.x0 i l.west);
  east = half_after i r.x1 even.x1 l.east;
  north = half_order r.y0 (j +ℤ pos 1) (one_more r.y0 j l.north);
  south = half_after j r.y1 even.y1 l.south;
}

-- a cell of half of a region is one of the coarser region
carried : (actives : List Region) (level : ℕ) (a b : ℤ) (drawn : AreActive actives) → level + 1 < length actives → HasCell (active_at actives level) →
    Lies (halved (active_at actives level)) a b → contains (active_at actives (level + 1)) a b ≡ true
carried actives level a b drawn low some l =
    let r = active_at actives level in
    let next = active_at actives (level + 1) in
    let inside : Lies (hole r) a b = subst (λ (q : Region). Lies q a b) (sym (hole_is r some)) l in
    let w : Within next (hole r) = hole_within (margin drawn.k) r next (inner_of actives level drawn low) (cell_in (hole r) a b inside) in
    lying next a b (larger next (hole r) w inside)
  where
    larger : (p q : Region) → Within p q → Lies q a b → Lies p a b
    larger p q w l' = record { west = omega (arith, ints, w.west, l'.west); east = omega (arith, ints, w.east, l'.east); north = omega (arith, ints, w.north, l'.north); south = omega (arith, ints, w.south, l'.south) }

pub lower_there : (actives : List Region) (level : ℕ) (i j : ℤ) → AreActive actives → level + 1 < length actives → contains (active_at actives level) i j ≡ true →
    contains (active_at actives (level + 1)) (lower_end i) (lower_end j) ≡ true
lower_there actives level i j drawn low there =
    let l : Lies (active_at actives level) i j = lies (active_at actives level) i j there in
    carried actives level (lower_end i) (lower_end j) drawn low (cell_in (active_at actives level) i j l) (lower_in (active_at actives level) i j l)

pub upper_there : (actives : List Region) (level : ℕ) (i j : ℤ) → AreActive actives → level + 1 < length actives → contains (active_at actives level) i j ≡ true →
    contains (active_at actives (level + 1)) (upper_end i) (upper_end j) ≡ true
upper_there actives level i j drawn low there =
    let l : Lies (active_at actives level) i j = lies (active_at actives level) i j there in
    let some : HasCell (active_at actives level) = cell_in (active_at actives level) i j l in
    let even : HasEvenCorners (active_at actives level) = even_if_cell (active_at actives level) (even_of actives level (omega arith) drawn) some in
    carried actives level (upper_end i) (upper_end j) drawn low some (upper_in (active_at actives level) i j even l)
