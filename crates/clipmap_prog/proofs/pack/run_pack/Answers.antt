use Rattle.clipmap_words.specs.Pack.{PackView, pack_view}
use Rattle.clipmap_prog.specs.Faults.{cause_of}
use Rattle.clipmap_prog.specs.Inputs.{inputs_view, tiles_reading}
use Rattle.clipmap_prog.specs.Pack.{pack_actions, pack_outcome}
use Rattle.clipmap_prog.proofs.Concluding.{concluded_done, concluded_refused, concluded_halted}
use Rattle.clipmap_prog.proofs.pack.run_pack.Goals as goal

pub returns-in-Ok-clause-runs : goal.returns-in-Ok-clause-runs
unfolding pack_outcome
returns-in-Ok-clause-runs g c =
    let pack : PackView = pack_view c.args.words.now in
    concluded_done g.S.Shelf.leaves (pack_actions pack) (tiles_reading pack.inputs) (inputs_view c.in-Ok.tiles) c.pack.result c.ended.result
    (g.S.Shelf.told c.args.shelf.now) (g.S.Shelf.told c.read_tiles.new.shelf) (g.S.Shelf.told c.pack.new.shelf) (g.K.Sink.told c.args.out.now) (g.K.Sink.told c.pack.new.out)
    c.in-Ok.ensures.found c.in-Ok.ensures.calls c.in-Ok.ensures.files_stay c.pack.ensures.ran c.ended.ensures.value

pub returns-in-Err-Refused-clause-runs : goal.returns-in-Err-Refused-clause-runs
unfolding pack_outcome
returns-in-Err-Refused-clause-runs g c =
    let pack : PackView = pack_view c.args.words.now in
    let read = rw c.in-Err-Refused.field-0-is at c.in-Err-Refused.ensures.found in
    concluded_refused g.S.Shelf.leaves (pack_actions pack) (tiles_reading pack.inputs) (cause_of c.in-Err-Refused.fault) c.write_fault.result c.ended-in-Err-Refused.result
    (g.S.Shelf.told c.args.shelf.now) (g.S.Shelf.told c.read_tiles.new.shelf) (g.K.Sink.told c.args.out.now) (g.K.Sink.told c.write_fault.new.out)
    read c.in-Err-Refused.ensures.calls c.in-Err-Refused.ensures.files_stay c.write_fault.ensures.ends c.write_fault.ensures.calls c.ended-in-Err-Refused.ensures.value

pub returns-in-Err-Halted-clause-runs : goal.returns-in-Err-Halted-clause-runs
unfolding pack_outcome
returns-in-Err-Halted-clause-runs g c =
    let pack : PackView = pack_view c.args.words.now in
    concluded_halted g.S.Shelf.leaves (pack_actions pack) (tiles_reading pack.inputs) c.in-Err-Halted.halt
    (g.S.Shelf.told c.args.shelf.now) (g.S.Shelf.told c.read_tiles.new.shelf) (g.K.Sink.told c.args.out.now)
    c.in-Err-Halted.ensures.calls c.in-Err-Halted.ensures.files_stay
