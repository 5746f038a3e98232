use Rattle.std.proofs.Common.{◌≡◌, sym, subst, ap, ◌∙◌}
use Rattle.plan_model.specs.declared.events.Event.TheVariants.{Begin}
use Rattle.plan_model.specs.States.{State, pass_at, frame_of}
use Rattle.std.proofs.Common.{◌<◌, length, Some, is_some, true, arith}
use Rattle.book_plan.specs.Notes.{open_frame}
use Rattle.clip_book.specs.Answers.{told_frame, IsBeginAnswer}
use Rattle.clip_book.proofs.Standing.{quiet_stands}
use Rattle.clip_book.proofs.AnswersOf.{begin_answers, refused_begins, begun_there, some_mapped}
use Rattle.clip_book.proofs.book.Book.begin.Goals as goal

pub invariant_of-self : goal.invariant_of-self
invariant_of-self c =
    quiet_stands c.kept_by_each_step.ensures c.steps_go_on.ensures c.cells_stay.ensures c.args.pass Begin _ c.self.inside.plan c.begin-answer.new.self c.self.inside.shape c.self.inside.tiles tt c.begin-answer.ensures c.self.invariant

pub refused_begin-requires : goal.refused_begin-requires
refused_begin-requires c =
    refused_begins c.begin-answer.result (subst IsBeginAnswer c.begin-answer.ensures.answered (begin_answers c.self.inside.plan.state c.args.pass)) (sym c.told_frame.ensures ∙ c.in-None.is)

pub begun_frame-requires : goal.begun_frame-requires
begun_frame-requires c =
    let small : c.args.pass < 16 = c.requires.pass in
    let many : length c.self.inside.plan.state.passes ≡ 16 = c.is_sound.ensures.passes in
    let there : c.args.pass < length c.self.inside.plan.state.passes = omega arith in
    let told : told_frame c.begin-answer.result ≡ Some c.in-Some.number = sym c.told_frame.ensures ∙ c.in-Some.is in
    let frame = begun_there c.self.inside.plan.state c.args.pass c.in-Some.number there (ap told_frame c.begin-answer.ensures.answered ∙ told) in
    let frame' : is_some (frame_of (pass_at c.begin-answer.new.self.state c.args.pass)) ≡ true = subst (λ (st : State). is_some (frame_of (pass_at st c.args.pass)) ≡ true) (sym c.begin-answer.ensures.state) frame in
    some_mapped open_frame c.frame_of.result _ c.frame_of.ensures frame'
