use Rattle.std.proofs.Common.{refl, rules, ◌+ℤ◌, pos}
use Rattle.std.specs.Int.{w32}
use Rattle.std.proofs.lemmas.Int.{to_z-of_z}
use mir.Val.{SFits}
use Rattle.four_point.specs.Blocks.{ArePredictions, AreSmallRows, first_cell}
use Rattle.four_point.proofs.BlockCells.{cell_is}
use Rattle.four_point.proofs.block.BlockPredictions.row.Goals as goal

pub returns-clause-values : goal.returns-clause-values
returns-clause-values c = λ a few.
    let j_fits : SFits w32 c.args.j = c.ranges.j in
    let patch = c.args.self.now.patch.now in
    let y_fits : SFits w32 patch.j0 = search rules in
    let values : ArePredictions patch c.args.self.now.cells = search rules in
    let row = simp to_z-of_z at c.place_in-down.ensures.place in
    cell_is patch c.args.self.now.cells a c.place_in-down.result (first_cell patch.i0 +ℤ pos a) c.args.j values few c.place_in-down.ensures.few refl row

pub returns-clause-sizes : goal.returns-clause-sizes
returns-clause-sizes c =
    let sizes : AreSmallRows c.args.self.now.cells = search rules in
    sizes c.place_in-down.result
