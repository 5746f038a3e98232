use Rattle.std.proofs.Common.{arith}
use Rattle.plan_model.specs.declared.events.Event.TheVariants.{End}
use Rattle.book_plan.proofs.Kept.{still_at}
use Rattle.book_plan.proofs.plan.BookPlan.end.Goals as goal

pub invariant_of-self : goal.invariant_of-self
invariant_of-self c =
    let s = c.self.inside in
    still_at c.steps_keep_soundness.ensures s.desk c.end.new.self s.moves s.moves c.args.pass End c.self.invariant tt c.end.ensures.state c.end.ensures.slots (omega arith) c.self.invariant.few_moves (omega (arith, c.self.invariant.few_frames))
