use Rattle.std.proofs.Common.{subst}
use Rattle.plan_model.specs.declared.events.Event.TheVariants.{Publish}
use Rattle.clip_book.proofs.Standing.{quiet_stands}
use Rattle.clip_book.proofs.AnswersOf.{publish_answers}
use Rattle.clip_book.specs.Answers.{IsPublishedAnswer}
use Rattle.clip_book.proofs.book.Book.publish.Goals as goal

pub invariant_of-self : goal.invariant_of-self
invariant_of-self c =
    quiet_stands c.kept_by_each_step.ensures c.steps_go_on.ensures c.cells_stay.ensures 0 (Publish c.args.level) _ c.self.inside.plan c.publish.new.self c.self.inside.shape c.self.inside.tiles tt c.publish.ensures c.self.invariant

pub published_answer-requires : goal.published_answer-requires
published_answer-requires c =
    subst IsPublishedAnswer c.publish.ensures.answered (publish_answers c.self.inside.plan.state 0 c.args.level)
