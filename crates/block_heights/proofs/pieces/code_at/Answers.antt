use Rattle.std.proofs.Common.{◌∙◌, pos, [], get_or, sym}
use Rattle.std.specs.Int.{w32}
use Rattle.std.proofs.lemmas.Int.{to_z-of_z}
use Rattle.block_heights.proofs.CodedRows.{residual_fits}
use Rattle.block_heights.proofs.Cells.{table_code_at}
use Rattle.block_heights.proofs.pieces.code_at.Goals as goal

pub returns-clause-value : goal.returns-clause-value
returns-clause-value c =
    let place = c.place_in-place in
    let a = place.result.a in
    let b = place.result.b in
    let x = get_or (get_or c.args.table.now b []) a (pos 0) in
    to_z-of_z w32 x (residual_fits x (c.requires.in_range b a))
    ∙ sym (table_code_at c.args.region c.args.table.now c.args.cell.i c.args.cell.j a b place.ensures.column place.ensures.row)
