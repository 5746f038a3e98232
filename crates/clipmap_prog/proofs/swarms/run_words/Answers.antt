use Rattle.clipmap_words.specs.Swarm.{SwarmView, swarm_view}
use Rattle.outer_shelf.specs.Counts.{Rose}
use Rattle.clipmap_prog.specs.Faults.{cause_of}
use Rattle.clipmap_prog.specs.Swarm.{stage_view, swarm_reading}
use Rattle.clipmap_prog.proofs.Swarming.{swarm_done, swarm_refused, swarm_halted}
use Rattle.clipmap_prog.proofs.swarms.run_words.Goals as goal

pub returns-in-Ok-clause-ends : goal.returns-in-Ok-clause-ends
returns-in-Ok-clause-ends g c = λ verdict right.
    let swarm : SwarmView = swarm_view c.args.swarm.now in
    swarm_done g.S.Shelf.leaves swarm (swarm_reading verdict swarm) (stage_view c.in-Ok.staged) c.run_staged.result
    (g.S.Shelf.told c.args.shelf.now) (g.S.Shelf.told c.stage.new.shelf) (g.S.Shelf.told c.run_staged.new.shelf) (g.K.Sink.told c.args.out.now) (g.K.Sink.told c.run_staged.new.out)
    (c.in-Ok.ensures.found verdict right) (c.in-Ok.ensures.calls verdict) c.in-Ok.ensures.files_stay c.run_staged.ensures.ends

pub returns-in-Err-Refused-clause-ends : goal.returns-in-Err-Refused-clause-ends
returns-in-Err-Refused-clause-ends g c = λ verdict right.
    let swarm : SwarmView = swarm_view c.args.swarm.now in
    let read = rw c.in-Err-Refused.field-0-is at c.in-Err-Refused.ensures.found verdict right in
    swarm_refused g.S.Shelf.leaves swarm (swarm_reading verdict swarm) (cause_of c.in-Err-Refused.fault) c.write_fault.result c.ended.result
    (g.S.Shelf.told c.args.shelf.now) (g.S.Shelf.told c.stage.new.shelf) (g.K.Sink.told c.args.out.now) (g.K.Sink.told c.write_fault.new.out)
    read (c.in-Err-Refused.ensures.calls verdict) c.in-Err-Refused.ensures.files_stay c.write_fault.ensures.ends c.write_fault.ensures.calls c.ended.ensures.value

pub returns-in-Err-Halted-clause-ends : goal.returns-in-Err-Halted-clause-ends
returns-in-Err-Halted-clause-ends g c = λ verdict right.
    let swarm : SwarmView = swarm_view c.args.swarm.now in
    let reason = rw c.in-Err-Halted.field-0-is at c.in-Err-Halted.ensures.reason in
    swarm_halted g.S.Shelf.leaves swarm (swarm_reading verdict swarm) c.in-Err-Halted.halt
    (Rose (g.S.Shelf.told c.args.shelf.now).faults (g.S.Shelf.told c.stage.new.shelf).faults)
    (g.S.Shelf.told c.args.shelf.now) (g.S.Shelf.told c.stage.new.shelf) (g.K.Sink.told c.args.out.now)
    reason (c.in-Err-Halted.ensures.calls verdict) c.in-Err-Halted.ensures.files_stay
