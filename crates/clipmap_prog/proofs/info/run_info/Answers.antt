use Rattle.std.proofs.Common.{arith}
use Rattle.clipmap_words.specs.Info.{InfoView, info_view}
use Rattle.clipmap_prog.specs.Faults.{cause_of}
use Rattle.clipmap_prog.specs.Info.{info_actions, info_outcome}
use Rattle.clipmap_prog.specs.Sources.{source_view, sources_reading}
use Rattle.clipmap_prog.proofs.Concluding.{concluded_done, concluded_refused, concluded_halted}
use Rattle.clipmap_prog.proofs.Statuses.{reason_of}
use Rattle.run_actions.proofs.Writing.{ran_more, reason_after}
use Rattle.clipmap_prog.proofs.info.run_info.Goals as goal

pub returns-in-Ok-clause-runs : goal.returns-in-Ok-clause-runs
unfolding info_outcome
returns-in-Ok-clause-runs g c = λ verdict right.
    let info : InfoView = info_view c.args.info.now in
    let s1 = g.S.Shelf.told c.read_sources.new.shelf in
    let k = g.K.Sink.told c.args.out.now in
    let k1 = g.K.Sink.told c.tell.new.out in
    concluded_done g.S.Shelf.leaves info_actions (sources_reading verdict info.inputs) (source_view c.in-Ok.source) c.tell.result c.ended.result
    (g.S.Shelf.told c.args.shelf.now) s1 s1 k k1
    (c.in-Ok.ensures.found verdict right) (c.in-Ok.ensures.calls verdict) c.in-Ok.ensures.files_stay
    (ran_more g.S.Shelf.leaves 0 (info_actions (source_view c.in-Ok.source)) c.tell.result s1 s1 k k1 (c.tell.ensures.ran s1)) c.ended.ensures.value

pub returns-in-Ok-clause-reason : goal.returns-in-Ok-clause-reason
returns-in-Ok-clause-reason g c =
    let s = g.S.Shelf.told c.args.shelf.now in
    let s1 = g.S.Shelf.told c.read_sources.new.shelf in
    let k = g.K.Sink.told c.args.out.now in
    let k1 = g.K.Sink.told c.tell.new.out in
    reason_of 0 c.tell.result c.ended.result s s1 k k1 c.ended.ensures.value
    (reason_after c.tell.result s s1 s1 k k k1 c.read_sources.ensures.faults_stay (omega arith) (c.tell.ensures.reason s1))

pub returns-in-Err-Refused-clause-runs : goal.returns-in-Err-Refused-clause-runs
unfolding info_outcome
returns-in-Err-Refused-clause-runs g c = λ verdict right.
    let info : InfoView = info_view c.args.info.now in
    let read = rw c.in-Err-Refused.field-0-is at c.in-Err-Refused.ensures.found verdict right in
    concluded_refused g.S.Shelf.leaves info_actions (sources_reading verdict info.inputs) (cause_of c.in-Err-Refused.fault) c.write_fault.result c.ended-in-Err-Refused.result
    (g.S.Shelf.told c.args.shelf.now) (g.S.Shelf.told c.read_sources.new.shelf) (g.K.Sink.told c.args.out.now) (g.K.Sink.told c.write_fault.new.out)
    read (c.in-Err-Refused.ensures.calls verdict) c.in-Err-Refused.ensures.files_stay c.write_fault.ensures.ends c.write_fault.ensures.calls c.ended-in-Err-Refused.ensures.value

pub returns-in-Err-Halted-clause-runs : goal.returns-in-Err-Halted-clause-runs
unfolding info_outcome
returns-in-Err-Halted-clause-runs g c = λ verdict right.
    let info : InfoView = info_view c.args.info.now in
    concluded_halted g.S.Shelf.leaves info_actions (sources_reading verdict info.inputs) c.in-Err-Halted.halt
    (g.S.Shelf.told c.args.shelf.now) (g.S.Shelf.told c.read_sources.new.shelf) (g.K.Sink.told c.args.out.now)
    (c.in-Err-Halted.ensures.calls verdict) c.in-Err-Halted.ensures.files_stay
