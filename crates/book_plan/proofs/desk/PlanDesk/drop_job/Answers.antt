use Rattle.std.proofs.Common.{sym, subst}
use Rattle.book_plan.specs.Desks.{HaveSlots}
use Rattle.book_plan.proofs.Finished.{passes_slots}
use Rattle.book_plan.proofs.desk.PlanDesk.drop_job.Goals as goal

pub returns-clause-slots : goal.returns-clause-slots
returns-clause-slots c =
    subst HaveSlots (sym c.set_pass.ensures) (passes_slots c.args.self.now _ c.args.self.now.begun c.requires.standing.slots)
