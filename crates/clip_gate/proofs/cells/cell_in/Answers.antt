use Rattle.std.proofs.Common.{◌≡◌, pos, ◌+ℤ◌, w32, arith}
use Rattle.std.proofs.lemmas.Int.{ints}
use Rattle.clip_gate.proofs.cells.cell_in.Goals as goal
use mir.Val.{to_z, of_z}

pub returns-clause-column : goal.returns-clause-column
returns-clause-column c =
    let i : to_z w32 (of_z w32 (to_z w32 (of_z w32 c.args.region.x0) +ℤ to_z w32 c.args.u)) ≡ c.args.region.x0 +ℤ pos c.args.u = omega (arith, ints) in
    i

pub returns-clause-row : goal.returns-clause-row
returns-clause-row c =
    let j : to_z w32 (of_z w32 (to_z w32 (of_z w32 c.args.region.y0) +ℤ to_z w32 c.args.v)) ≡ c.args.region.y0 +ℤ pos c.args.v = omega (arith, ints) in
    j
