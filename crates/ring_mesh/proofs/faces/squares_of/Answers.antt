-- The differences fit.
use Rattle.std.proofs.Common.{◌≡◌, pos, ◌-ℤ◌, w32, arith, rules}
use Rattle.std.proofs.lemmas.Int.{ints, to_z-of_z}
use Rattle.mesh_model.specs.Parts.{squares_in}
use Rattle.ring_mesh.proofs.faces.squares_of.Goals as goal
use mir.Val.{to_z, of_z, SFits}

pub returns : goal.returns
unfolding squares_in
returns c =
    let x0 : SFits w32 c.args.block.now.x0 = search rules in
    let y0 : SFits w32 c.args.block.now.y0 = search rules in
    let x1 : to_z w32 (of_z w32 (to_z w32 (of_z w32 c.args.block.now.x1) -ℤ pos 1)) ≡ c.args.block.now.x1 -ℤ pos 1 = omega (arith, ints) in
    let y1 : to_z w32 (of_z w32 (to_z w32 (of_z w32 c.args.block.now.y1) -ℤ pos 1)) ≡ c.args.block.now.y1 -ℤ pos 1 = omega (arith, ints) in
    λ t. record {
      x0 = to_z-of_z w32 c.args.block.now.x0 x0 t;
      y0 = to_z-of_z w32 c.args.block.now.y0 y0 t;
      x1 = x1 t;
      y1 = y1 t;
    }
