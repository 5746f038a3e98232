use Rattle.std.proofs.Common.{subst}
use Rattle.terrain_model.specs.Terrain.{Terrain}
use Rattle.clipmap_words.specs.PackBy.{PackByView, pack_by_view}
use Rattle.clipmap_prog.specs.Faults.{cause_of}
use Rattle.clipmap_prog.specs.Pack.{pack_by_actions, pack_by_outcome, store_actions}
use Rattle.run_actions.specs.Runs.{Ran}
use Rattle.clipmap_prog.specs.Sources.{source_view, sources_reading}
use Rattle.clipmap_prog.proofs.Concluding.{concluded_done, concluded_refused, concluded_halted}
use Rattle.clipmap_prog.proofs.pack.run_pack_by.Goals as goal

pub returns-in-Ok-clause-runs : goal.returns-in-Ok-clause-runs
unfolding pack_by_outcome
returns-in-Ok-clause-runs g c = λ verdict right.
    let pack : PackByView = pack_by_view c.args.words.now in
    let s1 = g.S.Shelf.told c.read_sources.new.shelf in
    let s2 = g.S.Shelf.told c.pack_by.new.shelf in
    let k = g.K.Sink.told c.args.out.now in
    let k1 = g.K.Sink.told c.pack_by.new.out in
    let Over : Terrain → Type 0 = λ terrain. Ran g.S.Shelf.leaves 0 (store_actions pack.out 2 pack.levels pack.step terrain) c.pack_by.result s1 s2 k k1 in
    let ran = subst Over c.grid.ensures.value c.pack_by.ensures.ran in
    concluded_done g.S.Shelf.leaves (pack_by_actions pack) (sources_reading verdict pack.inputs) (source_view c.in-Ok.source) c.pack_by.result c.ended.result
    (g.S.Shelf.told c.args.shelf.now) s1 s2 k k1
    (c.in-Ok.ensures.found verdict right) (c.in-Ok.ensures.calls verdict) c.in-Ok.ensures.files_stay ran c.ended.ensures.value

pub returns-in-Err-Refused-clause-runs : goal.returns-in-Err-Refused-clause-runs
unfolding pack_by_outcome
returns-in-Err-Refused-clause-runs g c = λ verdict right.
    let pack : PackByView = pack_by_view c.args.words.now in
    let read = rw c.in-Err-Refused.field-0-is at c.in-Err-Refused.ensures.found verdict right in
    concluded_refused g.S.Shelf.leaves (pack_by_actions pack) (sources_reading verdict pack.inputs) (cause_of c.in-Err-Refused.fault) c.write_fault.result c.ended-in-Err-Refused.result
    (g.S.Shelf.told c.args.shelf.now) (g.S.Shelf.told c.read_sources.new.shelf) (g.K.Sink.told c.args.out.now) (g.K.Sink.told c.write_fault.new.out)
    read (c.in-Err-Refused.ensures.calls verdict) c.in-Err-Refused.ensures.files_stay c.write_fault.ensures.ends c.write_fault.ensures.calls c.ended-in-Err-Refused.ensures.value

pub returns-in-Err-Halted-clause-runs : goal.returns-in-Err-Halted-clause-runs
unfolding pack_by_outcome
returns-in-Err-Halted-clause-runs g c = λ verdict right.
    let pack : PackByView = pack_by_view c.args.words.now in
    concluded_halted g.S.Shelf.leaves (pack_by_actions pack) (sources_reading verdict pack.inputs) c.in-Err-Halted.halt
    (g.S.Shelf.told c.args.shelf.now) (g.S.Shelf.told c.read_sources.new.shelf) (g.K.Sink.told c.args.out.now)
    (c.in-Err-Halted.ensures.calls verdict) c.in-Err-Halted.ensures.files_stay
