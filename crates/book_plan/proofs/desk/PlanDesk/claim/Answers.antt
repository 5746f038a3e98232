use Rattle.std.proofs.Common.{sym, subst}
use Rattle.book_plan.specs.Desks.{HaveSlots}
use Rattle.book_plan.proofs.Finished.{passes_slots}
use Rattle.book_plan.proofs.desk.PlanDesk.claim.Goals as goal

pub returns-in-Some-clause-slots : goal.returns-in-Some-clause-slots
returns-in-Some-clause-slots c =
    subst HaveSlots (sym c.set_pass.ensures) (passes_slots c.args.self.now _ c.args.self.now.begun c.requires.standing.slots)
