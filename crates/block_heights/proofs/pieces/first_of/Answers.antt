use Rattle.std.proofs.Common.{rules}
use Rattle.std.specs.Int.{w32}
use Rattle.std.proofs.lemmas.Int.{to_z-of_z}
use mir.Val.{SFits}
use Rattle.block_heights.proofs.Cells.{cell_starts, cell_same}
use Rattle.block_heights.proofs.pieces.first_of.Goals as goal

pub returns : goal.returns
returns c =
    let region = c.args.region in
    let x_fits : SFits w32 region.x0 = search rules in
    let y_fits : SFits w32 region.y0 = search rules in
    cell_same region 0 region.x0 region.y0 _ _ (to_z-of_z w32 region.x0 x_fits) (to_z-of_z w32 region.y0 y_fits) (cell_starts region c.requires)
