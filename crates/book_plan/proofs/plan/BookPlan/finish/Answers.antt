use Rattle.std.proofs.Common.{arith}
use Rattle.plan_model.specs.declared.events.Event.TheVariants.{Finish}
use Rattle.book_plan.proofs.Kept.{still_at}
use Rattle.book_plan.proofs.plan.BookPlan.finish.Goals as goal

pub invariant_of-self : goal.invariant_of-self
invariant_of-self c =
    let s = c.self.inside in
    still_at c.steps_keep_soundness.ensures s.desk c.finish.new.self s.moves s.moves c.args.pass Finish c.self.invariant tt c.finish.ensures.state c.finish.ensures.slots (omega arith) c.self.invariant.few_moves (omega (arith, c.self.invariant.few_frames))
