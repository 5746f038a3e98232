use Rattle.std.proofs.Common.{◌≡◌, ap, arith}
use Rattle.plan_model.specs.declared.events.Event.TheVariants.{Begin}
use Rattle.book_plan.specs.Books.{PlanView}
use Rattle.book_plan.proofs.Kept.{still_at}
use Rattle.book_plan.proofs.plan.BookPlan.begin.Goals as goal

pub invariant_of-self : goal.invariant_of-self
invariant_of-self c =
    let s = c.self.inside in
    let same : s.desk.begun ≡ c.args.self.now.state.begun = ap (λ (v : PlanView). v.state.begun) c.self.view_is in
    still_at c.steps_keep_soundness.ensures s.desk c.begin.new.self s.moves s.moves c.args.pass Begin c.self.invariant tt c.begin.ensures.state c.begin.ensures.slots (omega arith) c.self.invariant.few_moves (omega (arith, same, c.requires.begun))
