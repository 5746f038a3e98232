use Rattle.std.proofs.Common.{rules, w32, arith}
use Rattle.std.proofs.lemmas.Int.{ints}
use mir.Val.{SFits}
use Rattle.grid_fills.proofs.fills.BlockCells.column.Goals as goal

pub overflow_add-result : goal.overflow_add-result
overflow_add-result c =
    let s = c.args.self in
    let x0 : SFits w32 s.cells.x0 = search rules in
    let x1 : SFits w32 s.cells.x1 = search rules in
    omega (arith, ints, s.east, s.wide)

pub returns : goal.returns
returns c =
    let s = c.args.self in
    let x0 : SFits w32 s.cells.x0 = search rules in
    let x1 : SFits w32 s.cells.x1 = search rules in
    omega (arith, ints, s.east, s.wide)
