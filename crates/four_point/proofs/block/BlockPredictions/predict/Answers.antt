use Rattle.std.proofs.Common.{◌∙◌, get_or, pos, [], rules}
use Rattle.std.specs.Int.{w32}
use Rattle.std.proofs.lemmas.Int.{to_z-of_z}
use mir.Val.{SFits}
use Rattle.four_point.specs.Blocks.{ArePredictions, AreSmallRows}
use Rattle.four_point.proofs.SumLemmas.{same, size_same}
use Rattle.four_point.proofs.BlockCells.{cell_is}
use Rattle.four_point.proofs.block.BlockPredictions.predict.Goals as goal

pub returns-clause-value : goal.returns-clause-value
returns-clause-value c =
    let i_fits : SFits w32 c.args.i = c.ranges.i in
    let j_fits : SFits w32 c.args.j = c.ranges.j in
    let patch = c.args.self.now.patch.now in
    let x_fits : SFits w32 patch.i0 = search rules in
    let y_fits : SFits w32 patch.j0 = search rules in
    let a = c.place_in-a.result in
    let b = c.place_in-b.result in
    let fits : SFits w32 (get_or (get_or c.args.self.now.cells b []) a (pos 0)) = search rules in
    let values : ArePredictions patch c.args.self.now.cells = search rules in
    let column = simp to_z-of_z at c.place_in-a.ensures.place in
    let row = simp to_z-of_z at c.place_in-b.ensures.place in
    same _ fits
    ∙ cell_is patch c.args.self.now.cells a b c.args.i c.args.j values c.place_in-a.ensures.few c.place_in-b.ensures.few column row

pub returns-clause-size : goal.returns-clause-size
returns-clause-size c =
    let a = c.place_in-a.result in
    let b = c.place_in-b.result in
    let fits : SFits w32 (get_or (get_or c.args.self.now.cells b []) a (pos 0)) = search rules in
    let sizes : AreSmallRows c.args.self.now.cells = search rules in
    size_same 51200 _ fits (sizes b a)
