use Rattle.book_plan.specs.Notes.{open_frame}
use Rattle.plan_model.specs.States.{frame_of}
use Rattle.clip_book.specs.Answers.{said_of_ended}
use Rattle.clip_gate.specs.Passes.{part_of}
use Rattle.clip_gate.specs.Calls.{places_to_end}
use Rattle.swarm_passes.proofs.Rendering.{ended_by}
use Rattle.clip_swarm.proofs.Begun.{end_fits}
use Rattle.clip_swarm.proofs.drawing.end.Goals as goal

pub unreachable-requires : goal.unreachable-requires
unreachable-requires g c = end_fits (open_frame c.args.note.now) c.args.pass.now c.end-answer.new.pass c.requires.frame c.number-sound.ensures.sound c.in-Err.ensures.full

pub returns : goal.returns
returns g c =
    ended_by (said_of_ended c.in-Ok.field-0) (places_to_end (frame_of (part_of c.args.pass.now))) (open_frame c.args.note.now) c.args.pass.now c.end-answer.new.pass c.number-number.ensures.sound.own c.requires.frame c.in-Ok.ensures.made
