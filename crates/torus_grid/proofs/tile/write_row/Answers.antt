use Rattle.std.proofs.Common.{◌+◌, pos, get_or, rules, arith}
use Rattle.std.proofs.lemmas.Int.{to_z-of_z}
use mir.Syntax.{w16}
use mir.Val.{SFits, of_z, to_z}
use Rattle.torus_grid.proofs.Written.{row_none, row_more, wider}
use Rattle.torus_grid.proofs.tile.write_row.Goals as goal

pub loop-n-init : goal.loop-n-init
loop-n-init c = row_none c.args.to c.args.from c.args.tile.now c.args.heights.now

pub loop-n-preserved : goal.loop-n-preserved
loop-n-preserved c =
    let fits : SFits w16 (get_or c.args.heights.now (c.args.from + c.loop-n.n) (pos 0)) = search rules in
    row_more c.args.to c.args.from c.loop-n.n c.args.tile.now c.args.heights.now c.loop-n.tile (to_z w16 (of_z w16 (get_or c.args.heights.now (c.args.from + c.loop-n.n) (pos 0)))) c.loop-n.invariant (omega (arith, c.loop-n.auto.tile)) (to_z-of_z w16 (get_or c.args.heights.now (c.args.from + c.loop-n.n) (pos 0)) fits)

pub returns-clause-written : goal.returns-clause-written
returns-clause-written c = λ n l. c.loop-n.invariant.written n (omega arith)

pub returns-clause-others : goal.returns-clause-others
returns-clause-others c = λ n h. c.loop-n.invariant.others n (wider c.args.to c.args.width c.loop-n.n n c.loop-n.auto.n-end h)
