use Rattle.std.proofs.Common.{◌+◌, ap, sym, ◌∙◌, subst}
use Rattle.book_plan.specs.Desks.{Desk, HaveSlots}
use Rattle.book_plan.proofs.Finished.{passes_slots}
use Rattle.book_plan.proofs.desk.PlanDesk.open_frame.Goals as goal

pub returns-clause-slots : goal.returns-clause-slots
returns-clause-slots c =
    subst HaveSlots (sym (c.count_frame-number.ensures.counted ∙ ap (λ (d : Desk). let e : Desk = record d { begun = d.begun + 1 } in e) c.set_pass.ensures)) (passes_slots c.args.self.now _ _ c.requires.standing.slots)
