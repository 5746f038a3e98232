use Rattle.clipmap_words.specs.Play.{PlayView, play_view}
use Rattle.clipmap_prog.specs.Faults.{cause_of}
use Rattle.clipmap_prog.specs.Play.{play_outcome, play_reading, stage_actions, stage_view}
use Rattle.clipmap_prog.proofs.Concluding.{concluded_done, concluded_refused, concluded_halted}
use Rattle.clipmap_prog.proofs.play.run_play.Goals as goal

pub returns-in-Ok-clause-runs : goal.returns-in-Ok-clause-runs
unfolding play_outcome
returns-in-Ok-clause-runs g c = λ verdict right.
    let play : PlayView = play_view c.args.play.now in
    concluded_done g.S.Shelf.leaves (stage_actions play.out) (play_reading verdict play) (stage_view c.in-Ok.staged) c.play_staged.result c.ended.result
    (g.S.Shelf.told c.args.shelf.now) (g.S.Shelf.told c.stage.new.shelf) (g.S.Shelf.told c.play_staged.new.shelf) (g.K.Sink.told c.args.out.now) (g.K.Sink.told c.play_staged.new.out)
    (c.in-Ok.ensures.found verdict right) (c.in-Ok.ensures.calls verdict) c.in-Ok.ensures.files_stay c.play_staged.ensures.ran c.ended.ensures.value

pub returns-in-Err-Refused-clause-runs : goal.returns-in-Err-Refused-clause-runs
unfolding play_outcome
returns-in-Err-Refused-clause-runs g c = λ verdict right.
    let play : PlayView = play_view c.args.play.now in
    let read = rw c.in-Err-Refused.field-0-is at c.in-Err-Refused.ensures.found verdict right in
    concluded_refused g.S.Shelf.leaves (stage_actions play.out) (play_reading verdict play) (cause_of c.in-Err-Refused.fault) c.write_fault.result c.ended-in-Err-Refused.result
    (g.S.Shelf.told c.args.shelf.now) (g.S.Shelf.told c.stage.new.shelf) (g.K.Sink.told c.args.out.now) (g.K.Sink.told c.write_fault.new.out)
    read (c.in-Err-Refused.ensures.calls verdict) c.in-Err-Refused.ensures.files_stay c.write_fault.ensures.ends c.write_fault.ensures.calls c.ended-in-Err-Refused.ensures.value

pub returns-in-Err-Halted-clause-runs : goal.returns-in-Err-Halted-clause-runs
unfolding play_outcome
returns-in-Err-Halted-clause-runs g c = λ verdict right.
    let play : PlayView = play_view c.args.play.now in
    concluded_halted g.S.Shelf.leaves (stage_actions play.out) (play_reading verdict play) c.in-Err-Halted.halt
    (g.S.Shelf.told c.args.shelf.now) (g.S.Shelf.told c.stage.new.shelf) (g.K.Sink.told c.args.out.now)
    (c.in-Err-Halted.ensures.calls verdict) c.in-Err-Halted.ensures.files_stay
