-- The cell at a place of a region lies in it.
use Rattle.std.proofs.Common.{◌≡◌, ℕ, zero, suc, ◌*◌, ◌%◌, ◌/◌, ◌<◌, true, pos, ◌+ℤ◌, arith}
use Rattle.std.proofs.lemmas.Nat.{div_below, mod_below}
use Rattle.std.proofs.lemmas.Int.{ints}
use Rattle.clip_regions.specs.declared.region.Region.{Region}
use Rattle.clip_regions.specs.Regions.{columns, rows, contains}
use Rattle.clip_regions.proofs.Cells.{lying}
use Rattle.clip_regions.proofs.Gaps.{gap_holds}

some_columns : (k across down : ℕ) → k < across * down → 0 < across
some_columns k zero down near = absurd (omega arith)
some_columns k (suc across) down near = omega arith

pub placed : (r : Region) (k : ℕ) → k < columns r * rows r → contains r (r.x0 +ℤ pos (k % columns r)) (r.y0 +ℤ pos (k / columns r)) ≡ true
unfolding columns rows
placed r k near =
    let some = some_columns k (columns r) (rows r) near in
    let east = gap_holds r.x0 (r.x1 +ℤ pos 1) (k % columns r) (mod_below k (columns r) some) in
    let south = gap_holds r.y0 (r.y1 +ℤ pos 1) (k / columns r) (div_below k (columns r) (rows r) some (omega arith)) in
    lying r (r.x0 +ℤ pos (k % columns r)) (r.y0 +ℤ pos (k / columns r)) (record { west = omega (arith, ints); east = omega (arith, ints); north = omega (arith, ints); south = omega (arith, ints) })
