use Rattle.std.proofs.Common.{◌<◌, length, sym, subst, arith}
use Rattle.plan_model.specs.declared.events.Event.TheVariants.{Publish}
use Rattle.book_plan.specs.Books.{PlanView}
use Rattle.book_plan.specs.Desks.{state_of}
use Rattle.book_plan.proofs.Kept.{still_at}
use Rattle.book_plan.proofs.plan.BookPlan.publish.Goals as goal

pub invariant_of-self : goal.invariant_of-self
invariant_of-self c =
    let s = c.self.inside in
    let there : c.args.level < length (state_of s.desk).levels = subst (λ (v : PlanView). c.args.level < length v.state.levels) (sym c.self.view_is) c.requires in
    still_at c.steps_keep_soundness.ensures s.desk c.publish.new.self s.moves s.moves 0 (Publish c.args.level) c.self.invariant there c.publish.ensures.state c.publish.ensures.slots (omega arith) c.self.invariant.few_moves (omega (arith, c.self.invariant.few_frames))
