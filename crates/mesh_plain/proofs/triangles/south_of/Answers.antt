-- The sum fits.
use Rattle.std.proofs.Common.{◌≡◌, pos, ◌+ℤ◌, w32, arith, rules}
use Rattle.std.proofs.lemmas.Int.{ints, to_z-of_z}
use Rattle.mesh_plain.proofs.triangles.south_of.Goals as goal
use mir.Val.{to_z, of_z, SFits}

pub returns : goal.returns
returns c =
    let fits : SFits w32 c.args.cell.now.i = search rules in
    let j : to_z w32 (of_z w32 (to_z w32 (of_z w32 c.args.cell.now.j) +ℤ pos 1)) ≡ c.args.cell.now.j +ℤ pos 1 = omega (arith, ints) in
    λ t. record { level = c.args.cell.now.level; i = to_z-of_z w32 c.args.cell.now.i fits t; j = j t }
