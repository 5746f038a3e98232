-- The laws of the coarser cells that a region needs.
use Rattle.std.proofs.Common.{◌≡◌, ℕ, ◌+◌, ◌-◌, ◌*◌, ◌^◌, ◌<◌, ◌≤◌, true, false, ℤ, pos, ◌+ℤ◌, ◌-ℤ◌, ◌*ℤ◌, ◌≤ℤ◌, ap, sym, ◌∙◌, arith}
use Rattle.std.proofs.lemmas.Int.{ints}
use Rattle.clip_regions.specs.declared.region.Region.{Region}
use Rattle.clip_regions.specs.FloorDivision.{floor_div, floor_rem}
use Rattle.clip_regions.specs.Regions.{is_empty, holds}
use Rattle.plan_model.specs.Window.{half_width, center, window}
use Rattle.plan_model.specs.Blocks.{block_cells}
use Rattle.plan_model.specs.Strips.{need}
use Rattle.plan_model.specs.declared.tiles.Piece.{Piece}
use Rattle.plan_laws.specs.Needs.{NeedsHaveCells, NeedsAreMonotone, NeedsInCoarserWindows, patch_of, NeedsInPatches}
use Rattle.plan_laws.proofs.PieceLaws.{pieces_have_cells, pieces_in_blocks}
use Rattle.clip_regions.proofs.Quotients.{rem_below, quotient_and_rest}
use Rattle.plan_model.proofs.Quotients.{half_quotient, next_power, some_power}
use Rattle.clip_regions.proofs.Cells.{HasCell, has_cell, not_empty, Within, within, holds_within}

half_rises : (a b : ℤ) → a ≤ℤ b → floor_div a 2 ≤ℤ floor_div b 2
half_rises a b h =
    let ra : floor_rem a 2 < 2 = rem_below a 2 (omega arith) in
    let rb : floor_rem b 2 < 2 = rem_below b 2 (omega arith) in
    let wa : a ≡ pos 2 *ℤ floor_div a 2 +ℤ pos (floor_rem a 2) = quotient_and_rest a 2 (omega arith) in
    let wb : b ≡ pos 2 *ℤ floor_div b 2 +ℤ pos (floor_rem b 2) = quotient_and_rest b 2 (omega arith) in
    omega (arith, ints)

need_has_cell : (r : Region) → HasCell r → HasCell (need r)
unfolding need
need_has_cell r some =
    let x : floor_div r.x0 2 ≤ℤ floor_div (r.x1 +ℤ pos 1) 2 = half_rises r.x0 (r.x1 +ℤ pos 1) (omega (arith, ints)) in
    let y : floor_div r.y0 2 ≤ℤ floor_div (r.y1 +ℤ pos 1) 2 = half_rises r.y0 (r.y1 +ℤ pos 1) (omega (arith, ints)) in
    record { across = omega (arith, ints); along = omega (arith, ints) }

pub needs_have_cells : NeedsHaveCells
needs_have_cells r e = not_empty (need r) (need_has_cell r (has_cell r e))

need_within : (a b : Region) → Within a b → Within (need a) (need b)
unfolding need
need_within a b w =
    let west' : floor_div a.x0 2 ≤ℤ floor_div b.x0 2 = half_rises a.x0 b.x0 w.west in
    let north' : floor_div a.y0 2 ≤ℤ floor_div b.y0 2 = half_rises a.y0 b.y0 w.north in
    let east' : floor_div (b.x1 +ℤ pos 1) 2 ≤ℤ floor_div (a.x1 +ℤ pos 1) 2 = half_rises (b.x1 +ℤ pos 1) (a.x1 +ℤ pos 1) (omega (arith, ints)) in
    let south' : floor_div (b.y1 +ℤ pos 1) 2 ≤ℤ floor_div (a.y1 +ℤ pos 1) 2 = half_rises (b.y1 +ℤ pos 1) (a.y1 +ℤ pos 1) (omega (arith, ints)) in
    record { west = omega (arith, ints); east = omega (arith, ints); north = omega (arith, ints); south = omega (arith, ints) }

pub needs_are_monotone : NeedsAreMonotone
needs_are_monotone a b some h = holds_within (need a) (need b) (need_within a b (within a b h some))

-- ---- windows
half_is : (k : ℕ) → 3 ≤ k → half_width k + 1 ≡ 4 * 2 ^ (k - 3)
unfolding half_width
half_is k h =
    let next : k - 1 ≡ k - 3 + 1 + 1 = omega arith in
    let twice : 2 ^ (k - 3 + 1 + 1) ≡ 2 ^ (k - 3 + 1) * 2 = next_power (k - 3 + 1) in
    let again : 2 ^ (k - 3 + 1) ≡ 2 ^ (k - 3) * 2 = next_power (k - 3) in
    let whole : 2 ^ (k - 1) ≡ 2 ^ (k - 3 + 1 + 1) = ap (λ (n : ℕ). 2 ^ n) next in
    let some : 1 ≤ 2 ^ (k - 3) = some_power (k - 3) in
    omega arith

-- the coarser quotient is half of the finer one
coarser_quotient : (level : ℕ) (v : ℤ) → floor_div (floor_div v (2 ^ (level + 1))) 2 ≡ floor_div v (2 ^ (level + 1 + 1))
coarser_quotient level v = half_quotient v (2 ^ (level + 1)) ∙ ap (floor_div v) (sym (next_power (level + 1)))

-- a finer centre is twice the coarser one, less or more by one
record Centers (finer coarser : ℤ) : Type 0 where
  low : (pos 2 *ℤ coarser -ℤ pos 1) ≤ℤ finer
  high : finer ≤ℤ (pos 2 *ℤ coarser +ℤ pos 1)

centers : (level : ℕ) (v : ℤ) → Centers (center level v) (center (level + 1) v)
unfolding center
centers level v =
    let quotient : floor_div (floor_div v (2 ^ (level + 1))) 2 ≡ floor_div v (2 ^ (level + 1 + 1)) = coarser_quotient level v in
    let below : floor_rem (floor_div v (2 ^ (level + 1))) 2 < 2 = rem_below (floor_div v (2 ^ (level + 1))) 2 (omega arith) in
    let whole : floor_div v (2 ^ (level + 1)) ≡ pos 2 *ℤ floor_div (floor_div v (2 ^ (level + 1))) 2 +ℤ pos (floor_rem (floor_div v (2 ^ (level + 1))) 2) = quotient_and_rest (floor_div v (2 ^ (level + 1))) 2 (omega arith) in
    record { low = omega (arith, ints); high = omega (arith, ints) }

need_west : (finer coarser z : ℤ) (h : ℕ) → 3 ≤ h → Centers finer coarser → (finer -ℤ pos h) ≤ℤ z → (coarser -ℤ pos h) ≤ℤ (floor_div z 2 -ℤ pos 1)
need_west finer coarser z h wide c low =
    let ra : floor_rem z 2 < 2 = rem_below z 2 (omega arith) in
    let wa : z ≡ pos 2 *ℤ floor_div z 2 +ℤ pos (floor_rem z 2) = quotient_and_rest z 2 (omega arith) in
    omega (arith, ints)

need_east : (finer coarser z : ℤ) (h : ℕ) → 3 ≤ h → Centers finer coarser → z ≤ℤ (finer +ℤ pos h) → (floor_div (z +ℤ pos 1) 2 +ℤ pos 1) ≤ℤ (coarser +ℤ pos h)
need_east finer coarser z h wide c high =
    let ra : floor_rem (z +ℤ pos 1) 2 < 2 = rem_below (z +ℤ pos 1) 2 (omega arith) in
    let wa : z +ℤ pos 1 ≡ pos 2 *ℤ floor_div (z +ℤ pos 1) 2 +ℤ pos (floor_rem (z +ℤ pos 1) 2) = quotient_and_rest (z +ℤ pos 1) 2 (omega arith) in
    omega (arith, ints)

need_in_window : (k level : ℕ) (x y : ℤ) (r : Region) → 3 ≤ k → Within (window k level x y) r → Within (window k (level + 1) x y) (need r)
unfolding window need
need_in_window k level x y r h w =
    let half : half_width k + 1 ≡ 4 * 2 ^ (k - 3) = half_is k h in
    let some : 1 ≤ 2 ^ (k - 3) = some_power (k - 3) in
    let wide : 3 ≤ half_width k = omega arith in
    record {
      west = need_west (center level x) (center (level + 1) x) r.x0 (half_width k) wide (centers level x) w.west;
      east = need_east (center level x) (center (level + 1) x) r.x1 (half_width k) wide (centers level x) w.east;
      north = need_west (center level y) (center (level + 1) y) r.y0 (half_width k) wide (centers level y) w.north;
      south = need_east (center level y) (center (level + 1) y) r.y1 (half_width k) wide (centers level y) w.south;
    }

pub needs_in_coarser_windows : NeedsInCoarserWindows
needs_in_coarser_windows k level x y r h some inside =
    holds_within (window k (level + 1) x y) (need r) (need_in_window k level x y r h (within (window k level x y) r inside some))

-- ---- patches
patch_low : (b z : ℤ) → (pos 8 *ℤ b) ≤ℤ z → (pos 4 *ℤ b -ℤ pos 1) ≤ℤ (floor_div z 2 -ℤ pos 1)
patch_low b z h =
    let ra : floor_rem z 2 < 2 = rem_below z 2 (omega arith) in
    let wa : z ≡ pos 2 *ℤ floor_div z 2 +ℤ pos (floor_rem z 2) = quotient_and_rest z 2 (omega arith) in
    omega (arith, ints)

patch_high : (b z : ℤ) → z ≤ℤ (pos 8 *ℤ b +ℤ pos 7) → (floor_div (z +ℤ pos 1) 2 +ℤ pos 1) ≤ℤ (pos 4 *ℤ b +ℤ pos 5)
patch_high b z h =
    let ra : floor_rem (z +ℤ pos 1) 2 < 2 = rem_below (z +ℤ pos 1) 2 (omega arith) in
    let wa : z +ℤ pos 1 ≡ pos 2 *ℤ floor_div (z +ℤ pos 1) 2 +ℤ pos (floor_rem (z +ℤ pos 1) 2) = quotient_and_rest (z +ℤ pos 1) 2 (omega arith) in
    omega (arith, ints)

need_in_patch : (bx by : ℤ) (r : Region) → Within (block_cells bx by) r → Within (patch_of bx by) (need r)
unfolding block_cells need patch_of
need_in_patch bx by r w = record {
  west = patch_low bx r.x0 w.west;
  east = patch_high bx r.x1 w.east;
  north = patch_low by r.y0 w.north;
  south = patch_high by r.y1 w.south;
}

piece_in_patch : (p : Piece) → is_empty p.cells ≡ false → holds (block_cells p.bx p.by) p.cells ≡ true → holds (patch_of p.bx p.by) (need p.cells) ≡ true
piece_in_patch p some inside =
    holds_within (patch_of p.bx p.by) (need p.cells) (need_in_patch p.bx p.by p.cells (within (block_cells p.bx p.by) p.cells inside some))

pub needs_in_patches : NeedsInPatches
needs_in_patches r n d inside = piece_in_patch _ (pieces_have_cells r n d inside) (pieces_in_blocks r n d inside)
