use Rattle.std.proofs.Common.{◌≡◌, refl, sym, ap, ◌∙◌, subst}
use Rattle.plan_model.specs.States.{Pass, frame_of}
use Rattle.plan_model.specs.declared.events.Event.TheVariants.{Begin}
use Rattle.book_plan.specs.Notes.{open_frame}
use Rattle.clip_book.specs.Answers.{said_of_begun}
use Rattle.clip_book.specs.declared.answers.Begun.{Begun}
use Rattle.clip_gate.specs.Calls.{HasMade}
use Rattle.swarm_passes.specs.Drawing.{HasOpen}
use Rattle.swarm_passes.proofs.Loops.{IsAnswered, IsHeld, answered_begin, held_renders}
use Rattle.swarm_passes.proofs.Reading.{waits_by}
use Rattle.swarm_passes.proofs.Rendering.{frame_goes, full_renders}
use Rattle.clip_swarm.proofs.Begun.{has_told, none_told, prints_one}
use Rattle.clip_swarm.proofs.drawing.make_frame.Goals as goal

pub unreachable-requires : goal.unreachable-requires
unreachable-requires g c =
    let answered = answered_begin c.in-Ok-Frame.field-0 c.args.pass.now c.begin.new.pass c.number-number.ensures.sound.own c.number-number.ensures.sound.low c.requires.free c.in-Ok-Frame.ensures.made in
    let has = subst (λ (a : Begun). IsAnswered c.begin.new.pass a) c.in-Ok-Frame.field-0-is answered in
    none_told c.begin.new.pass c.frame.result has.0 c.frame.ensures.value c.in-None.is has.1

pub made-requires-clause-frame : goal.made-requires-clause-frame
made-requires-clause-frame g c = has_told c.begin.new.pass c.frame.result c.in-Some.note c.frame.ensures.value c.in-Some.is

pub end-requires-clause-frame : goal.end-requires-clause-frame
end-requires-clause-frame g c =
    ap (λ (part : Pass). frame_of part) c.made.ensures.waited.part ∙ has_told c.begin.new.pass c.frame.result c.in-Some.note c.frame.ensures.value c.in-Some.is

pub returns-in_ok-put-in-Ok-Frame : goal.returns-in_ok-put-in-Ok-Frame
returns-in_ok-put-in-Ok-Frame g c =
    let note = c.in-Some.note in
    let old = c.args.pass.now in
    let made = subst (λ (a : Begun). HasMade Begin (said_of_begun a) 2 c.args.pass.now c.begin.new.pass) c.in-Ok-Frame.field-0-is c.in-Ok-Frame.ensures.made in
    record {
      draws = frame_goes c.in-Ok-Frame.field-0-0 (open_frame note) old c.begin.new.pass c.made.new.pass c.end.new.pass c.args.frames.now.items c.put.new.items.items c.number-number.ensures.sound.own c.requires.free made
          (waits_by c.begin.new.pass c.made.new.pass c.frame.ensures.sound.own c.made.ensures.waited) c.end.ensures
          (prints_one (open_frame note) c.in_ok-frame-in-Ok-Frame.frame c.args.clip.now c.args.k old c.args.frames.now.items c.put.new.items.items c.requires.clip c.requires.same c.in_ok-frame-in-Ok-Frame.ensures.frame c.in_ok-put-in-Ok-Frame.ensures);
    }

pub unreachable-requires-in-Ok-HasWork : goal.unreachable-requires-in-Ok-HasWork
unreachable-requires-in-Ok-HasWork g c =
    let answered = answered_begin c.in-Ok-HasWork.field-0 c.args.pass.now c.begin.new.pass c.number-number.ensures.sound.own c.number-number.ensures.sound.low c.requires.free c.in-Ok-HasWork.ensures.made in
    subst (λ (a : Begun). IsAnswered c.begin.new.pass a) c.in-Ok-HasWork.field-0-is answered

pub returns-in-Ok-Held : goal.returns-in-Ok-Held
returns-in-Ok-Held g c =
    let begun = c.in-Ok-Held.field-0 in
    let answered = answered_begin begun c.args.pass.now c.begin.new.pass c.number-number.ensures.sound.own c.number-number.ensures.sound.low c.requires.free c.in-Ok-Held.ensures.made in
    record {
      draws = held_renders begun c.args.pass.now c.begin.new.pass c.args.frames.now.items c.args.frames.now.items c.number-number.ensures.sound.own c.requires.free c.in-Ok-Held.ensures.made answered
          (subst (λ (a : Begun). IsHeld a) (sym c.in-Ok-Held.field-0-is) tt) refl;
    }

pub returns-in-Err : goal.returns-in-Err
returns-in-Err g c = record {
  draws = full_renders c.args.pass.now c.begin.new.pass c.args.frames.now.items c.args.frames.now.items c.number-number.ensures.sound.own c.requires.free c.in-Err.ensures.full refl;
}
