-- The cell lies on the side.
use Rattle.std.proofs.Common.{◌≤◌, subst}
use Rattle.stitches.specs.declared.sides.Side.{Side}
use Rattle.stitches.specs.Sides.{steps_along}
use Rattle.stitches.proofs.Ways.{north_cell, east_cell, south_cell, west_cell}
use Rattle.stitches.proofs.sides.place_after.Goals as goal

pub place_in-requires-clause-cell : goal.place_in-requires-clause-cell
place_in-requires-clause-cell c =
    let r = c.args.ring.now.active in
    north_cell r c.args.u c.requires.border.own.small.near c.requires.border.some (subst (λ (s : Side). c.args.u ≤ steps_along r s) c.in-North.is c.requires.walked)

pub place_in-requires-in-East-clause-cell : goal.place_in-requires-in-East-clause-cell
place_in-requires-in-East-clause-cell c =
    let r = c.args.ring.now.active in
    east_cell r c.args.u c.requires.border.own.small.near c.requires.border.some (subst (λ (s : Side). c.args.u ≤ steps_along r s) c.in-East.is c.requires.walked)

pub place_in-requires-in-South-clause-cell : goal.place_in-requires-in-South-clause-cell
place_in-requires-in-South-clause-cell c =
    let r = c.args.ring.now.active in
    south_cell r c.args.u c.requires.border.own.small.near c.requires.border.some (subst (λ (s : Side). c.args.u ≤ steps_along r s) c.in-South.is c.requires.walked)

pub place_in-requires-in-West-clause-cell : goal.place_in-requires-in-West-clause-cell
place_in-requires-in-West-clause-cell c =
    let r = c.args.ring.now.active in
    west_cell r c.args.u c.requires.border.own.small.near c.requires.border.some (subst (λ (s : Side). c.args.u ≤ steps_along r s) c.in-West.is c.requires.walked)
