-- The corners are copied.
use Rattle.std.proofs.Common.{w32, rules}
use Rattle.std.proofs.lemmas.Int.{to_z-of_z}
use Rattle.mesh_plain.proofs.square_parts.south_of.Goals as goal
use mir.Val.{SFits}

pub returns : goal.returns
returns c =
    let x0 : SFits w32 c.args.active.now.x0 = search rules in
    let y0 : SFits w32 c.args.gap.now.y1 = search rules in
    let x1 : SFits w32 c.args.active.now.x1 = search rules in
    let y1 : SFits w32 c.args.active.now.y1 = search rules in
    λ t. record {
      x0 = to_z-of_z w32 c.args.active.now.x0 x0 t;
      y0 = to_z-of_z w32 c.args.gap.now.y1 y0 t;
      x1 = to_z-of_z w32 c.args.active.now.x1 x1 t;
      y1 = to_z-of_z w32 c.args.active.now.y1 y1 t;
    }
