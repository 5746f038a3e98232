-- How many cells a window has at most.
use Rattle.std.proofs.Common.{◌^◌, ◌≤◌, ℤ, pos, negsuc, ◌+ℤ◌, ◌-ℤ◌, ◌≤ℤ◌, arith}
use Rattle.std.proofs.lemmas.Int.{ints}
use Rattle.std.proofs.Math.Nat.{mul-le-mul}
use Rattle.std.specs.Int.{int_gap}
use Rattle.clip_regions.specs.declared.region.Region.{Region}
use Rattle.clip_regions.specs.Regions.{columns, rows, area}
use Rattle.plan_plain_pieces.specs.Placed.{IsShort}

gap_few : (a b : ℤ) → (b -ℤ a) ≤ℤ pos 256 → int_gap a b ≤ 256
gap_few (pos a) (pos b) h = omega (arith, ints)
gap_few (pos a) (negsuc b) h = omega (arith, ints)
gap_few (negsuc a) (pos b) h = omega (arith, ints)
gap_few (negsuc a) (negsuc b) h = omega (arith, ints)

columns_few : (r : Region) → IsShort r → columns r ≤ 256
unfolding columns
columns_few r h = gap_few r.x0 (r.x1 +ℤ pos 1) (omega (arith, ints, h.columns))

rows_few : (r : Region) → IsShort r → rows r ≤ 256
unfolding rows
rows_few r h = gap_few r.y0 (r.y1 +ℤ pos 1) (omega (arith, ints, h.rows))

pub area_few : (r : Region) → IsShort r → area r ≤ 2 ^ 16
unfolding area
area_few r h = mul-le-mul (columns_few r h) (rows_few r h)
