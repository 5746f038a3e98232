-- The heights of seven by seven cells, which lie in at most two tiles by two.
use Rattle.std.proofs.Common.{◌≡◌, ℕ, ◌+◌, ◌-◌, ◌*◌, ◌<◌, ◌≤◌, Bool, true, cond, ℤ, pos, ◌+ℤ◌, ◌*ℤ◌, List, get_or, Some, ap, sym, ◌∙◌, arith}
use Rattle.std.specs.Int.{w32}
use Rattle.std.proofs.lemmas.Int.{ints, to_z-of_z}
use mathlib.Core.Path.{ap₂}
use mir.Val.{SFits, to_z, of_z}
use Rattle.clip_regions.specs.FloorDivision.{floor_div, floor_rem}
use Rattle.plan_model.specs.Blocks.{tile_of, tile_of_cell}
use Rattle.plan_model.specs.Laws.{OneTileABlock}
use Rattle.torus_grid.specs.Places.{tile_height}
use Rattle.torus_grid.specs.Grids.{Grid, tile_at, is_home, height_at}
use Rattle.torus_grid.specs.Patches.{beside, among_four, AreSevenHome, HasSixMore}
use Rattle.torus_grid.proofs.Numbers.{eight_below, eight_is, rem_is, rem_on, div_on}
use Rattle.torus_grid.proofs.RowHeights.{height_is}
use Rattle.torus_grid.proofs.TilesAt.{not_less}
use Rattle.strip_planner.proofs.Rings.{by_order, less_of}

-- ---- two tiles side by side, and four
pub beside_west : (west east : List ℤ) (x y : ℕ) → x < 8 → beside west east x y ≡ get_or west (8 * y + x) (pos 0)
unfolding beside
beside_west west east x y h =
    ap (λ (b : Bool). cond b (get_or west (8 * y + x) (pos 0)) (get_or east (8 * y + (x - 8)) (pos 0))) (less_of x 8 h)

pub beside_east : (west east : List ℤ) (x y : ℕ) → 8 ≤ x → beside west east x y ≡ get_or east (8 * y + (x - 8)) (pos 0)
unfolding beside
beside_east west east x y h =
    ap (λ (b : Bool). cond b (get_or west (8 * y + x) (pos 0)) (get_or east (8 * y + (x - 8)) (pos 0))) (not_less x 8 h)

pub among_north : (nw ne sw se : List ℤ) (x y : ℕ) → y < 8 → among_four nw ne sw se x y ≡ beside nw ne x y
unfolding among_four
among_north nw ne sw se x y h = ap (λ (b : Bool). cond b (beside nw ne x y) (beside sw se x (y - 8))) (less_of y 8 h)

pub among_south : (nw ne sw se : List ℤ) (x y : ℕ) → 8 ≤ y → among_four nw ne sw se x y ≡ beside sw se x (y - 8)
unfolding among_four
among_south nw ne sw se x y h = ap (λ (b : Bool). cond b (beside nw ne x y) (beside sw se x (y - 8))) (not_less y 8 h)

-- ---- seven places of an axis
-- place z + a lies in the block of place z', as its p-th
record Stands (z z' : ℤ) (a p : ℕ) : Type 0 where
  block : floor_div (z +ℤ pos a) 8 ≡ floor_div z' 8
  place : floor_rem (z +ℤ pos a) 8 ≡ p

near : (z : ℤ) (a : ℕ) → floor_rem z 8 + a < 8 → Stands z z a (floor_rem z 8 + a)
near z a h = record { block = div_on z a h; place = rem_on z a h }

next_block : (z : ℤ) (a : ℕ) → a < 7 → 8 ≤ floor_rem z 8 + a → floor_div (z +ℤ pos a) 8 ≡ floor_div z 8 +ℤ pos 1
next_block z a few h =
    let below : floor_rem (z +ℤ pos a) 8 < 8 = eight_below (z +ℤ pos a) in
    let start : floor_rem z 8 < 8 = eight_below z in
    let whole : z ≡ pos 8 *ℤ floor_div z 8 +ℤ pos (floor_rem z 8) = eight_is z in
    let whole' : z +ℤ pos a ≡ pos 8 *ℤ floor_div (z +ℤ pos a) 8 +ℤ pos (floor_rem (z +ℤ pos a) 8) = eight_is (z +ℤ pos a) in
    omega (arith, ints)

far : (z : ℤ) (a : ℕ) → a < 7 → 8 ≤ floor_rem z 8 + a → Stands z (z +ℤ pos 6) a (floor_rem z 8 + a - 8)
far z a few h =
    let start : floor_rem z 8 < 8 = eight_below z in
    let whole : z ≡ pos 8 *ℤ floor_div z 8 +ℤ pos (floor_rem z 8) = eight_is z in
    record {
      block = next_block z a few h ∙ sym (next_block z 6 (omega arith) (omega arith));
      place = rem_is (z +ℤ pos a) (floor_div z 8 +ℤ pos 1) (floor_rem z 8 + a - 8) (omega arith) (omega (arith, ints));
    }

-- ---- a cell's height in the tile of another cell of its block
module _ (law : OneTileABlock) (g : Grid) (size : 3 ≤ g.k) (i0 j0 : ℤ) (a b : ℕ) where
  in_tile : (hs : List ℤ) (i j : ℤ) (p q : ℕ) → Stands i0 i a p → Stands j0 j b q → tile_at g (tile_of_cell g.k i j) ≡ Some hs → get_or hs (8 * q + p) (pos 0) ≡ height_at g (i0 +ℤ pos a) (j0 +ℤ pos b)
  unfolding tile_height
  in_tile hs i j p q column row e =
      let same : tile_of_cell g.k (i0 +ℤ pos a) (j0 +ℤ pos b) ≡ tile_of_cell g.k i j = law g.k (i0 +ℤ pos a) (j0 +ℤ pos b) size ∙ ap₂ (tile_of g.k) column.block row.block ∙ sym (law g.k i j size) in
      ap₂ (λ (y x : ℕ). get_or hs (8 * y + x) (pos 0)) (sym row.place) (sym column.place) ∙ height_is g hs (i0 +ℤ pos a) (j0 +ℤ pos b) (ap (tile_at g) same ∙ e)

  in_pair : (west east : List ℤ) (j : ℤ) (q : ℕ) → a < 7 → Stands j0 j b q → tile_at g (tile_of_cell g.k i0 j) ≡ Some west → tile_at g (tile_of_cell g.k (i0 +ℤ pos 6) j) ≡ Some east → beside west east (floor_rem i0 8 + a) q ≡ height_at g (i0 +ℤ pos a) (j0 +ℤ pos b)
  in_pair west east j q few row w e =
      by_order 8 (floor_rem i0 8 + a) (λ (h : 8 ≤ floor_rem i0 8 + a). beside_east west east (floor_rem i0 8 + a) q h ∙ in_tile east (i0 +ℤ pos 6) j (floor_rem i0 8 + a - 8) q (far i0 a few h) row e) (λ (h : floor_rem i0 8 + a < 8). beside_west west east (floor_rem i0 8 + a) q h ∙ in_tile west i0 j (floor_rem i0 8 + a) q (near i0 a h) row w)

  pub in_four : (nw ne sw se : List ℤ) → a < 7 → b < 7 → tile_at g (tile_of_cell g.k i0 j0) ≡ Some nw → tile_at g (tile_of_cell g.k (i0 +ℤ pos 6) j0) ≡ Some ne → tile_at g (tile_of_cell g.k i0 (j0 +ℤ pos 6)) ≡ Some sw → tile_at g (tile_of_cell g.k (i0 +ℤ pos 6) (j0 +ℤ pos 6)) ≡ Some se → among_four nw ne sw se (floor_rem i0 8 + a) (floor_rem j0 8 + b) ≡ height_at g (i0 +ℤ pos a) (j0 +ℤ pos b)
  in_four nw ne sw se across down enw ene esw ese =
      by_order 8 (floor_rem j0 8 + b) (λ (h : 8 ≤ floor_rem j0 8 + b). among_south nw ne sw se (floor_rem i0 8 + a) (floor_rem j0 8 + b) h ∙ in_pair sw se (j0 +ℤ pos 6) (floor_rem j0 8 + b - 8) across (far j0 b down h) esw ese) (λ (h : floor_rem j0 8 + b < 8). among_north nw ne sw se (floor_rem i0 8 + a) (floor_rem j0 8 + b) h ∙ in_pair nw ne j0 (floor_rem j0 8 + b) across (near j0 b h) enw ene)

-- ---- the first and the last of seven places, read again
pub first_place : (z : ℤ) → SFits w32 z → to_z w32 (of_z w32 z) ≡ z +ℤ pos 0
first_place z fits = let none : z ≡ z +ℤ pos 0 = omega (arith, ints) in to_z-of_z w32 z fits ∙ none

pub last_place : (z : ℤ) → SFits w32 z → HasSixMore z → to_z w32 (of_z w32 (to_z w32 (of_z w32 z) +ℤ pos 6)) ≡ z +ℤ pos 6
last_place z fits more =
    let s = fits.sfits in
    let fits' : SFits w32 (z +ℤ pos 6) = grind (arith, ints) in
    ap (λ (x : ℤ). to_z w32 (of_z w32 (x +ℤ pos 6))) (to_z-of_z w32 z fits) ∙ to_z-of_z w32 (z +ℤ pos 6) fits'

pub home_at : (g : Grid) (i0 j0 i j : ℤ) (a b : ℕ) → AreSevenHome g i0 j0 → a < 7 → b < 7 → i ≡ i0 +ℤ pos a → j ≡ j0 +ℤ pos b → is_home g (tile_of_cell g.k i j) ≡ true
home_at g i0 j0 i j a b home l m e f = ap₂ (λ (x y : ℤ). is_home g (tile_of_cell g.k x y)) e f ∙ home a b l m

pub tile_there : (g : Grid) (hs : List ℤ) (i j i' j' : ℤ) → i ≡ i' → j ≡ j' → tile_at g (tile_of_cell g.k i j) ≡ Some hs → tile_at g (tile_of_cell g.k i' j') ≡ Some hs
tile_there g hs i j i' j' e f h = sym (ap₂ (λ (x y : ℤ). tile_at g (tile_of_cell g.k x y)) e f) ∙ h
