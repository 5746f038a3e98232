use Rattle.std.proofs.Common.{subst}
use Rattle.plan_model.specs.declared.events.Event.TheVariants.{End}
use Rattle.clip_book.proofs.Standing.{quiet_stands}
use Rattle.clip_book.proofs.AnswersOf.{end_answers}
use Rattle.clip_book.specs.Answers.{IsEndedAnswer}
use Rattle.clip_book.proofs.book.Book.end.Goals as goal

pub invariant_of-self : goal.invariant_of-self
invariant_of-self c =
    quiet_stands c.kept_by_each_step.ensures c.steps_go_on.ensures c.cells_stay.ensures c.args.pass End _ c.self.inside.plan c.end.new.self c.self.inside.shape c.self.inside.tiles tt c.end.ensures c.self.invariant

pub ended_answer-requires : goal.ended_answer-requires
ended_answer-requires c =
    subst IsEndedAnswer c.end.ensures.answered (end_answers c.self.inside.plan.state c.args.pass)
