use Rattle.clipmap_words.specs.Frame.{FrameView, frame_view}
use Rattle.terrain_store.specs.Stores.{land_of}
use Rattle.clipmap_prog.specs.Faults.{cause_of}
use Rattle.clipmap_prog.specs.Frame.{drawn, frame_outcome}
use Rattle.clipmap_prog.specs.Lands.{land_reading}
use Rattle.clipmap_prog.proofs.Concluding.{concluded_done, concluded_refused, concluded_halted}
use Rattle.clipmap_prog.proofs.frame.run_frame.Goals as goal

pub returns-in-Ok-clause-runs : goal.returns-in-Ok-clause-runs
unfolding frame_outcome
returns-in-Ok-clause-runs g c = λ verdict right.
    let frame : FrameView = frame_view c.args.frame.now in
    concluded_done g.S.Shelf.leaves (drawn frame) (land_reading verdict frame.inputs frame.levels) (land_of c.in-Ok.store) c.draw.result c.ended.result
    (g.S.Shelf.told c.args.shelf.now) (g.S.Shelf.told c.read_land.new.shelf) (g.S.Shelf.told c.draw.new.shelf) (g.K.Sink.told c.args.out.now) (g.K.Sink.told c.draw.new.out)
    (c.in-Ok.ensures.found verdict right) (c.in-Ok.ensures.calls verdict) c.in-Ok.ensures.files_stay c.draw.ensures.ran c.ended.ensures.value

pub returns-in-Err-Refused-clause-runs : goal.returns-in-Err-Refused-clause-runs
unfolding frame_outcome
returns-in-Err-Refused-clause-runs g c = λ verdict right.
    let frame : FrameView = frame_view c.args.frame.now in
    let read = rw c.in-Err-Refused.field-0-is at c.in-Err-Refused.ensures.found verdict right in
    concluded_refused g.S.Shelf.leaves (drawn frame) (land_reading verdict frame.inputs frame.levels) (cause_of c.in-Err-Refused.fault) c.write_fault.result c.ended-in-Err-Refused.result
    (g.S.Shelf.told c.args.shelf.now) (g.S.Shelf.told c.read_land.new.shelf) (g.K.Sink.told c.args.out.now) (g.K.Sink.told c.write_fault.new.out)
    read (c.in-Err-Refused.ensures.calls verdict) c.in-Err-Refused.ensures.files_stay c.write_fault.ensures.ends c.write_fault.ensures.calls c.ended-in-Err-Refused.ensures.value

pub returns-in-Err-Halted-clause-runs : goal.returns-in-Err-Halted-clause-runs
unfolding frame_outcome
returns-in-Err-Halted-clause-runs g c = λ verdict right.
    let frame : FrameView = frame_view c.args.frame.now in
    concluded_halted g.S.Shelf.leaves (drawn frame) (land_reading verdict frame.inputs frame.levels) c.in-Err-Halted.halt
    (g.S.Shelf.told c.args.shelf.now) (g.S.Shelf.told c.read_land.new.shelf) (g.K.Sink.told c.args.out.now)
    (c.in-Err-Halted.ensures.calls verdict) c.in-Err-Halted.ensures.files_stay
