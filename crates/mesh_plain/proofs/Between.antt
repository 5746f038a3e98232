-- What lies between placed coordinates is placed.
use Rattle.std.proofs.Common.{ℕ, ◌+◌, ◌^◌, ◌<◌, ◌≤◌, ℤ, pos, negsuc, ◌+ℤ◌, ◌*ℤ◌, ◌≤ℤ◌, arith}
use Rattle.std.proofs.Math.Nat.{mul-le-mul_right}
use Rattle.std.proofs.Math.IntN.{pos-*ℤ-pos, negsuc-*ℤ-pos}
use Rattle.std.proofs.lemmas.Int.{ints}
use Rattle.clip_regions.specs.declared.region.Region.{Region}
use Rattle.clip_regions.specs.Regions.{columns, rows}
use Rattle.mesh_plain_heights.specs.Placed.{IsPlacedAt, ArePlaced, IsSquarePlaced}
use Rattle.mesh_plain.specs.Cells.{cell_in}
use Rattle.clip_regions.proofs.Gaps.{gap_holds}

pub scaled : (a b : ℤ) (s : ℕ) → a ≤ℤ b → (a *ℤ pos s) ≤ℤ (b *ℤ pos s)
scaled (pos a) (pos b) s h =
    let below : a ≤ b = omega (arith, ints) in
    omega (arith, ints, pos-*ℤ-pos a s, pos-*ℤ-pos b s, mul-le-mul_right s below)
scaled (pos a) (negsuc b) s h = absurd (omega (arith, ints))
scaled (negsuc a) (pos b) s h = omega (arith, ints, negsuc-*ℤ-pos a s, pos-*ℤ-pos b s)
scaled (negsuc a) (negsuc b) s h =
    let below : b + 1 ≤ a + 1 = omega (arith, ints) in
    omega (arith, ints, negsuc-*ℤ-pos a s, negsuc-*ℤ-pos b s, mul-le-mul_right s below)

pub placed_between : (level : ℕ) (a b i : ℤ) → IsPlacedAt level a → IsPlacedAt level b → a ≤ℤ i → i ≤ℤ b → IsPlacedAt level i
placed_between level a b i from to low high = record {
  low = omega (arith, ints, from.low, scaled a i (2 ^ level) low);
  high = omega (arith, ints, to.high, scaled i b (2 ^ level) high);
  small_low = omega (arith, ints, from.small_low);
  small_high = omega (arith, ints, to.small_high);
}

pub square_placed : (level : ℕ) (squares : Region) (v u : ℕ) → ArePlaced level squares → u < columns squares → v < rows squares → IsSquarePlaced (cell_in level squares v u)
unfolding columns rows
square_placed level squares v u placed narrow low =
    let in_columns = gap_holds squares.x0 (squares.x1 +ℤ pos 1) u narrow in
    let in_rows = gap_holds squares.y0 (squares.y1 +ℤ pos 1) v low in
    record {
      west = placed_between level squares.x0 (squares.x1 +ℤ pos 1) (squares.x0 +ℤ pos u) placed.west placed.east (omega (arith, ints)) (omega (arith, ints, in_columns));
      north = placed_between level squares.y0 (squares.y1 +ℤ pos 1) (squares.y0 +ℤ pos v) placed.north placed.south (omega (arith, ints)) (omega (arith, ints, in_rows));
      east = placed_between level squares.x0 (squares.x1 +ℤ pos 1) (squares.x0 +ℤ pos u +ℤ pos 1) placed.west placed.east (omega (arith, ints)) (omega (arith, ints, in_columns));
      south = placed_between level squares.y0 (squares.y1 +ℤ pos 1) (squares.y0 +ℤ pos v +ℤ pos 1) placed.north placed.south (omega (arith, ints)) (omega (arith, ints, in_rows));
    }
