use Rattle.std.proofs.lemmas.List.{drop_all}
use Rattle.std.proofs.lemmas.Result.{err_from_is_err_and}
use Rattle.clip_desk.proofs.Lists.{next_of}
use Rattle.swarm_runs.proofs.Putting.{on_start, on_more, on_halt, on_end}
use Rattle.swarm_runs.proofs.frames.put_frames.Goals as goal

pub loop-frame-init : goal.loop-frame-init
loop-frame-init g c = on_start g.S.Shelf.leaves c.args.name.now c.args.frames.now (g.S.Shelf.told c.args.shelf.now)

pub loop-frame-preserved : goal.loop-frame-preserved
loop-frame-preserved g c =
    on_more g.S.Shelf.leaves c.args.name.now c.args.frames.now c.loop-frame.frame-index c.frame-item.result
    (g.S.Shelf.told c.args.shelf.now) (g.S.Shelf.told c.loop-frame.shelf) (g.S.Shelf.told c.put_frame.new.shelf)
    c.loop-frame.invariant (next_of c.args.frames.now c.loop-frame.frame-index c.frame-item.result c.loop-frame-test.true c.frame-item.is)
    c.in_ok-put_frame.ensures

pub returns-in_err-put_frame : goal.returns-in_err-put_frame
returns-in_err-put_frame g c =
    let p = err_from_is_err_and c.from_residual.result c.from_residual.ensures.1 in
    rw (p.1, p.2) (on_halt g.S.Shelf.leaves c.args.name.now c.args.frames.now c.loop-frame.frame-index c.frame-item.result
    (g.S.Shelf.told c.args.shelf.now) (g.S.Shelf.told c.loop-frame.shelf) (g.S.Shelf.told c.put_frame.new.shelf)
    c.loop-frame.invariant (next_of c.args.frames.now c.loop-frame.frame-index c.frame-item.result c.loop-frame-test.true c.frame-item.is)
    _ c.in_err-put_frame.ensures)

pub returns : goal.returns
returns g c =
    on_end g.S.Shelf.leaves c.args.name.now c.args.frames.now c.loop-frame.frame-index
    (g.S.Shelf.told c.args.shelf.now) (g.S.Shelf.told c.loop-frame.shelf)
    c.loop-frame.invariant (drop_all c.loop-frame.frame-index c.args.frames.now c.loop-frame-test.false)
