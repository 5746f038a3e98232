use Rattle.std.proofs.Common.{arith}
use Rattle.clipmap_words.specs.Check.{CheckView, check_view}
use Rattle.clipmap_prog.specs.Check.{check_actions, check_outcome, check_reading}
use Rattle.clipmap_prog.specs.Faults.{cause_of}
use Rattle.run_actions.specs.Runs.{CallsWithin}
use Rattle.clipmap_prog.proofs.Concluding.{concluded_done, concluded_refused, concluded_halted}
use Rattle.clipmap_prog.proofs.Fetching.{always_some}
use Rattle.clipmap_prog.proofs.Statuses.{reason_of}
use Rattle.run_actions.proofs.Writing.{ran_more, reason_after}
use Rattle.clipmap_prog.proofs.check.run_check.Goals as goal

pub returns-in-Ok-clause-runs : goal.returns-in-Ok-clause-runs
unfolding check_outcome
returns-in-Ok-clause-runs g c =
    let check : CheckView = check_view c.args.check.now in
    let s = g.S.Shelf.told c.args.shelf.now in
    let s1 = g.S.Shelf.told c.read_check.new.shelf in
    let k = g.K.Sink.told c.args.out.now in
    let k1 = g.K.Sink.told c.tell.new.out in
    concluded_done g.S.Shelf.leaves check_actions (check_reading check) c.in-Ok.triangles c.tell.result c.ended.result
    s s1 s1 k k1
    c.in-Ok.ensures.found (always_some (λ files. CallsWithin 1 s.calls s1.calls) s.files (λ files. c.in-Ok.ensures.calls)) c.in-Ok.ensures.files_stay
    (ran_more g.S.Shelf.leaves 0 (check_actions c.in-Ok.triangles) c.tell.result s1 s1 k k1 (c.tell.ensures.ran s1)) c.ended.ensures.value

pub returns-in-Ok-clause-reason : goal.returns-in-Ok-clause-reason
returns-in-Ok-clause-reason g c =
    let s = g.S.Shelf.told c.args.shelf.now in
    let s1 = g.S.Shelf.told c.read_check.new.shelf in
    let k = g.K.Sink.told c.args.out.now in
    let k1 = g.K.Sink.told c.tell.new.out in
    reason_of 0 c.tell.result c.ended.result s s1 k k1 c.ended.ensures.value
    (reason_after c.tell.result s s1 s1 k k k1 c.read_check.ensures.faults_stay (omega arith) (c.tell.ensures.reason s1))

pub returns-in-Err-Refused-clause-runs : goal.returns-in-Err-Refused-clause-runs
unfolding check_outcome
returns-in-Err-Refused-clause-runs g c =
    let check : CheckView = check_view c.args.check.now in
    let s = g.S.Shelf.told c.args.shelf.now in
    let s1 = g.S.Shelf.told c.read_check.new.shelf in
    let read = rw c.in-Err-Refused.field-0-is at c.in-Err-Refused.ensures.found in
    concluded_refused g.S.Shelf.leaves check_actions (check_reading check) (cause_of c.in-Err-Refused.fault) c.write_fault.result c.ended-in-Err-Refused.result
    s s1 (g.K.Sink.told c.args.out.now) (g.K.Sink.told c.write_fault.new.out)
    read (always_some (λ files. CallsWithin 1 s.calls s1.calls) s.files (λ files. c.in-Err-Refused.ensures.calls)) c.in-Err-Refused.ensures.files_stay c.write_fault.ensures.ends c.write_fault.ensures.calls c.ended-in-Err-Refused.ensures.value

pub returns-in-Err-Halted-clause-runs : goal.returns-in-Err-Halted-clause-runs
unfolding check_outcome
returns-in-Err-Halted-clause-runs g c =
    let check : CheckView = check_view c.args.check.now in
    let s = g.S.Shelf.told c.args.shelf.now in
    let s1 = g.S.Shelf.told c.read_check.new.shelf in
    concluded_halted g.S.Shelf.leaves check_actions (check_reading check) c.in-Err-Halted.halt
    s s1 (g.K.Sink.told c.args.out.now)
    (always_some (λ files. CallsWithin 1 s.calls s1.calls) s.files (λ files. c.in-Err-Halted.ensures.calls)) c.in-Err-Halted.ensures.files_stay
