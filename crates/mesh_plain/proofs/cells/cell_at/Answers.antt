-- The sums fit, and are those of the definition.
use Rattle.std.proofs.Common.{◌≡◌, pos, ◌+ℤ◌, w32, arith}
use Rattle.std.proofs.lemmas.Int.{ints}
use Rattle.mesh_plain.proofs.cells.cell_at.Goals as goal
use mir.Val.{to_z, of_z}

pub returns : goal.returns
returns c =
    let i : to_z w32 (of_z w32 (to_z w32 (of_z w32 c.args.region.now.x0) +ℤ to_z w32 c.args.u)) ≡ c.args.region.now.x0 +ℤ pos c.args.u = omega (arith, ints) in
    let j : to_z w32 (of_z w32 (to_z w32 (of_z w32 c.args.region.now.y0) +ℤ to_z w32 c.args.v)) ≡ c.args.region.now.y0 +ℤ pos c.args.v = omega (arith, ints) in
    λ t. record { level = c.args.level; i = i t; j = j t }
