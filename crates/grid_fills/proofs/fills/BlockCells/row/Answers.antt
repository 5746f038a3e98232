use Rattle.std.proofs.Common.{rules, w32, arith}
use Rattle.std.proofs.lemmas.Int.{ints}
use mir.Val.{SFits}
use Rattle.grid_fills.proofs.fills.BlockCells.row.Goals as goal

pub overflow_add-result : goal.overflow_add-result
overflow_add-result c =
    let s = c.args.self in
    let y0 : SFits w32 s.cells.y0 = search rules in
    let y1 : SFits w32 s.cells.y1 = search rules in
    omega (arith, ints, s.south, s.high)

pub returns : goal.returns
returns c =
    let s = c.args.self in
    let y0 : SFits w32 s.cells.y0 = search rules in
    let y1 : SFits w32 s.cells.y1 = search rules in
    omega (arith, ints, s.south, s.high)
