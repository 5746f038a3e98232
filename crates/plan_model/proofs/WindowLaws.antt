-- The laws of windows and of the torus.
use Rattle.std.proofs.Common.{◌≡◌, ℕ, ◌+◌, ◌-◌, ◌*◌, ◌/◌, ◌^◌, ◌<◌, ◌≤◌, ℤ, pos, ◌+ℤ◌, ◌-ℤ◌, ◌*ℤ◌, ◌≤ℤ◌, ◌<ℤ◌, refl, ap, sym, ◌∙◌, arith}
use Rattle.std.proofs.lemmas.Int.{ints}
use mathlib.Core.Path.{ap₂}
use Rattle.std.proofs.lemmas.Nat.{pow-add}
use Rattle.clip_regions.specs.declared.region.Region.{Region}
use Rattle.clip_regions.specs.FloorDivision.{floor_div, floor_rem}
use Rattle.clip_regions.specs.Regions.{spelled, erode, halve, holds}
use Rattle.plan_model.specs.Window.{torus_side, half_width, center, window}
use Rattle.plan_model.specs.Blocks.{tiles_per_side, tile_of, tile_of_cell, wrapped_place}
use Rattle.plan_model.specs.Laws.{EvenWindows, NestedWindows, OneTileABlock, DistinctPlaces}
use Rattle.plan_model.specs.declared.tiles.TileId.{TileId}
use Rattle.plan_model.proofs.Quotients.{half_quotient, half_of, even_from, next_power, some_power, block_of_rem, same_from_rem}
use Rattle.clip_regions.proofs.Quotients.{rem_below, quotient_and_rest}
use Rattle.clip_regions.proofs.Cells.{Lies, lies, HasCell, not_empty, spelled_other, Within, holds_within, larger_has_cell}

-- ---- even corners
pub half_is : (k : ℕ) → 2 ≤ k → half_width k + 1 ≡ 2 * 2 ^ (k - 2)
unfolding half_width
half_is k h =
    let next : k - 1 ≡ k - 2 + 1 = omega arith in
    let twice : 2 ^ (k - 1) ≡ 2 ^ (k - 2) * 2 = ap (λ (n : ℕ). 2 ^ n) next ∙ next_power (k - 2) in
    let some : 1 ≤ 2 ^ (k - 2) = some_power (k - 2) in
    omega arith

-- the two ends of a window on an axis are twice these
west_half : ℕ → ℤ → ℕ → ℤ
west_half level v p = floor_div v (2 ^ (level + 1)) +ℤ pos 1 -ℤ pos p

east_half : ℕ → ℤ → ℕ → ℤ
east_half level v p = floor_div v (2 ^ (level + 1)) +ℤ pos p

west_is : (k level : ℕ) (v : ℤ) → 2 ≤ k → center level v -ℤ pos (half_width k) ≡ pos 2 *ℤ west_half level v (2 ^ (k - 2))
unfolding center west_half
west_is k level v h = let half : half_width k + 1 ≡ 2 * 2 ^ (k - 2) = half_is k h in omega (arith, ints)

east_is : (k level : ℕ) (v : ℤ) → 2 ≤ k → center level v +ℤ pos (half_width k) ≡ pos 2 *ℤ east_half level v (2 ^ (k - 2))
unfolding center east_half
east_is k level v h = let half : half_width k + 1 ≡ 2 * 2 ^ (k - 2) = half_is k h in omega (arith, ints)

pub even_windows : EvenWindows
unfolding window
even_windows k level x y h = record {
  x0 = even_from (center level x -ℤ pos (half_width k)) (west_half level x (2 ^ (k - 2))) (west_is k level x h);
  y0 = even_from (center level y -ℤ pos (half_width k)) (west_half level y (2 ^ (k - 2))) (west_is k level y h);
  x1 = even_from (center level x +ℤ pos (half_width k)) (east_half level x (2 ^ (k - 2))) (east_is k level x h);
  y1 = even_from (center level y +ℤ pos (half_width k)) (east_half level y (2 ^ (k - 2))) (east_is k level y h);
}

-- ---- nested windows
-- the coarser quotient is half of the finer one
coarser_quotient : (level : ℕ) (v : ℤ) → floor_div (floor_div v (2 ^ (level + 1))) 2 ≡ floor_div v (2 ^ (level + 1 + 1))
coarser_quotient level v = half_quotient v (2 ^ (level + 1)) ∙ ap (floor_div v) (sym (next_power (level + 1)))

nested_west : (k level : ℕ) (v : ℤ) → 2 ≤ k → (center (level + 1) v -ℤ pos (half_width k) +ℤ pos (2 ^ (k - 2) - 1)) ≤ℤ floor_div (center level v -ℤ pos (half_width k)) 2
unfolding center west_half
nested_west k level v h =
    let half : half_width k + 1 ≡ 2 * 2 ^ (k - 2) = half_is k h in
    let some : 1 ≤ 2 ^ (k - 2) = some_power (k - 2) in
    let west : floor_div (center level v -ℤ pos (half_width k)) 2 ≡ west_half level v (2 ^ (k - 2)) = half_of (center level v -ℤ pos (half_width k)) (west_half level v (2 ^ (k - 2))) (west_is k level v h) in
    let quotient : floor_div (floor_div v (2 ^ (level + 1))) 2 ≡ floor_div v (2 ^ (level + 1 + 1)) = coarser_quotient level v in
    let below : floor_rem (floor_div v (2 ^ (level + 1))) 2 < 2 = rem_below (floor_div v (2 ^ (level + 1))) 2 (omega arith) in
    let whole : floor_div v (2 ^ (level + 1)) ≡ pos 2 *ℤ floor_div (floor_div v (2 ^ (level + 1))) 2 +ℤ pos (floor_rem (floor_div v (2 ^ (level + 1))) 2) = quotient_and_rest (floor_div v (2 ^ (level + 1))) 2 (omega arith) in
    omega (arith, ints)

nested_east : (k level : ℕ) (v : ℤ) → 2 ≤ k → floor_div (center level v +ℤ pos (half_width k)) 2 ≤ℤ (center (level + 1) v +ℤ pos (half_width k) -ℤ pos (2 ^ (k - 2) - 1))
unfolding center east_half
nested_east k level v h =
    let half : half_width k + 1 ≡ 2 * 2 ^ (k - 2) = half_is k h in
    let some : 1 ≤ 2 ^ (k - 2) = some_power (k - 2) in
    let east : floor_div (center level v +ℤ pos (half_width k)) 2 ≡ east_half level v (2 ^ (k - 2)) = half_of (center level v +ℤ pos (half_width k)) (east_half level v (2 ^ (k - 2))) (east_is k level v h) in
    let quotient : floor_div (floor_div v (2 ^ (level + 1))) 2 ≡ floor_div v (2 ^ (level + 1 + 1)) = coarser_quotient level v in
    let below : floor_rem (floor_div v (2 ^ (level + 1))) 2 < 2 = rem_below (floor_div v (2 ^ (level + 1))) 2 (omega arith) in
    let whole : floor_div v (2 ^ (level + 1)) ≡ pos 2 *ℤ floor_div (floor_div v (2 ^ (level + 1))) 2 +ℤ pos (floor_rem (floor_div v (2 ^ (level + 1))) 2) = quotient_and_rest (floor_div v (2 ^ (level + 1))) 2 (omega arith) in
    omega (arith, ints)

half_window : ℕ → ℕ → ℤ → ℤ → Region
half_window k level x y = record {
  x0 = floor_div (center level x -ℤ pos (half_width k)) 2;
  y0 = floor_div (center level y -ℤ pos (half_width k)) 2;
  x1 = floor_div (center level x +ℤ pos (half_width k)) 2;
  y1 = floor_div (center level y +ℤ pos (half_width k)) 2;
}

inner_window : ℕ → ℕ → ℤ → ℤ → Region
inner_window k level x y = record {
  x0 = center (level + 1) x -ℤ pos (half_width k) +ℤ pos (2 ^ (k - 2) - 1);
  y0 = center (level + 1) y -ℤ pos (half_width k) +ℤ pos (2 ^ (k - 2) - 1);
  x1 = center (level + 1) x +ℤ pos (half_width k) -ℤ pos (2 ^ (k - 2) - 1);
  y1 = center (level + 1) y +ℤ pos (half_width k) -ℤ pos (2 ^ (k - 2) - 1);
}

halve_window : (k level : ℕ) (x y : ℤ) → halve (window k level x y) ≡ spelled (half_window k level x y)
unfolding halve window half_window
halve_window k level x y = refl

erode_window : (k level : ℕ) (x y : ℤ) → erode (window k (level + 1) x y) (pos (2 ^ (k - 2) - 1)) ≡ spelled (inner_window k level x y)
unfolding erode window inner_window
erode_window k level x y = refl

in_order : (k level : ℕ) (v : ℤ) → 2 ≤ k → floor_div (center level v -ℤ pos (half_width k)) 2 ≤ℤ floor_div (center level v +ℤ pos (half_width k)) 2
unfolding west_half east_half
in_order k level v h =
    let some : 1 ≤ 2 ^ (k - 2) = some_power (k - 2) in
    let west : floor_div (center level v -ℤ pos (half_width k)) 2 ≡ west_half level v (2 ^ (k - 2)) = half_of (center level v -ℤ pos (half_width k)) (west_half level v (2 ^ (k - 2))) (west_is k level v h) in
    let east : floor_div (center level v +ℤ pos (half_width k)) 2 ≡ east_half level v (2 ^ (k - 2)) = half_of (center level v +ℤ pos (half_width k)) (east_half level v (2 ^ (k - 2))) (east_is k level v h) in
    omega (arith, ints)

half_has_cell : (k level : ℕ) (x y : ℤ) → 2 ≤ k → HasCell (half_window k level x y)
unfolding half_window
half_has_cell k level x y h = record { across = in_order k level x h; along = in_order k level y h }

half_within : (k level : ℕ) (x y : ℤ) → 2 ≤ k → Within (inner_window k level x y) (half_window k level x y)
unfolding half_window inner_window
half_within k level x y h = record {
  west = nested_west k level x h;
  east = nested_east k level x h;
  north = nested_west k level y h;
  south = nested_east k level y h;
}

pub nested_windows : NestedWindows
nested_windows k level x y h =
    let within : Within (inner_window k level x y) (half_window k level x y) = half_within k level x y h in
    let some : HasCell (half_window k level x y) = half_has_cell k level x y h in
    let half : halve (window k level x y) ≡ half_window k level x y = halve_window k level x y ∙ spelled_other (half_window k level x y) (not_empty (half_window k level x y) some) in
    let inner : erode (window k (level + 1) x y) (pos (2 ^ (k - 2) - 1)) ≡ inner_window k level x y = erode_window k level x y ∙ spelled_other (inner_window k level x y) (not_empty (inner_window k level x y) (larger_has_cell (inner_window k level x y) (half_window k level x y) within some)) in
    ap₂ holds inner half ∙ holds_within (inner_window k level x y) (half_window k level x y) within

-- ---- blocks and tiles
side_in_blocks : (k : ℕ) → 3 ≤ k → 2 ^ k ≡ 8 * 2 ^ (k - 3)
side_in_blocks k h =
    let parts : k ≡ 3 + (k - 3) = omega arith in
    ap (λ (n : ℕ). 2 ^ n) parts ∙ pow-add 2 3 (k - 3)

tile_axis : (k : ℕ) (z : ℤ) → 3 ≤ k → floor_rem z (2 ^ k) / 8 ≡ floor_rem (floor_div z 8) (2 ^ k / 8)
tile_axis k z h =
    let side : 2 ^ k ≡ 8 * 2 ^ (k - 3) = side_in_blocks k h in
    let tiles : 2 ^ k / 8 ≡ 2 ^ (k - 3) = omega arith in
    let some : 0 < 2 ^ (k - 3) = some_power (k - 3) in
    ap (λ (m : ℕ). floor_rem z m / 8) side ∙ block_of_rem z (2 ^ (k - 3)) some ∙ ap (floor_rem (floor_div z 8)) (sym tiles)

abbrev tile : ℕ → ℕ → TileId
tile tx ty = record { tx = tx; ty = ty }

pub one_tile_a_block : OneTileABlock
unfolding tile_of_cell tile_of tiles_per_side torus_side
one_tile_a_block k i j h = ap₂ tile (tile_axis k i h) (tile_axis k j h)

-- ---- wrapped places
side_over_width : (k : ℕ) → 2 ≤ k → half_width k + half_width k < 2 ^ k
unfolding half_width
side_over_width k h =
    let next : k ≡ k - 1 + 1 = omega arith in
    let twice : 2 ^ k ≡ 2 ^ (k - 1) * 2 = ap (λ (n : ℕ). 2 ^ n) next ∙ next_power (k - 1) in
    let some : 1 ≤ 2 ^ (k - 1) = some_power (k - 1) in
    omega arith

near : (c i i' : ℤ) (h m : ℕ) → h + h < m → (c -ℤ pos h) ≤ℤ i' → i ≤ℤ (c +ℤ pos h) → i <ℤ (i' +ℤ pos m)
near c i i' h m size low high = omega (arith, ints)

same_place : (k : ℕ) (c i i' : ℤ) → 2 ≤ k → (c -ℤ pos (half_width k)) ≤ℤ i → i ≤ℤ (c +ℤ pos (half_width k)) → (c -ℤ pos (half_width k)) ≤ℤ i' → i' ≤ℤ (c +ℤ pos (half_width k)) → floor_rem i (2 ^ k) ≡ floor_rem i' (2 ^ k) → i ≡ i'
same_place k c i i' h low high low' high' e =
    let size : half_width k + half_width k < 2 ^ k = side_over_width k h in
    same_from_rem i i' (2 ^ k) (some_power k) e (near c i i' (half_width k) (2 ^ k) size low' high) (near c i' i (half_width k) (2 ^ k) size low high')

pub distinct_places : DistinctPlaces
unfolding window wrapped_place torus_side
distinct_places k level x y i j i' j' h here there e =
    let a : Lies (window k level x y) i j = lies (window k level x y) i j here in
    let b : Lies (window k level x y) i' j' = lies (window k level x y) i' j' there in
    (same_place k (center level x) i i' h a.west a.east b.west b.east (ap (λ (p : ℕ × ℕ). p.0) e), same_place k (center level y) j j' h a.north a.south b.north b.south (ap (λ (p : ℕ × ℕ). p.1) e))
