use Rattle.std.proofs.Common.{set, ap, sym, ◌∙◌, subst}
use Rattle.plan_model.specs.declared.events.Work.TheVariants.{Free}
use Rattle.book_plan.specs.Desks.{Desk, state_of, HaveSlots}
use Rattle.book_plan.proofs.Finished.{marked_desk, marked_slots, passes_slots, kept_state}
use Rattle.book_plan.proofs.desk.PlanDesk.keep_job.Goals as goal

pub returns-clause-state : goal.returns-clause-state
returns-clause-state c =
    let d = c.args.self.now in
    ap state_of (c.set_pass.ensures ∙ ap (λ (e : Desk). let f : Desk = record e { passes = set e.passes c.args.p Free } in f) c.mark.ensures) ∙ kept_state c.pieces_have_different_blocks.ensures d c.args.p c.args.job c.requires.standing.slots c.requires.level

pub returns-clause-slots : goal.returns-clause-slots
returns-clause-slots c =
    let d = c.args.self.now in
    subst HaveSlots (sym (c.set_pass.ensures ∙ ap (λ (e : Desk). let f : Desk = record e { passes = set e.passes c.args.p Free } in f) c.mark.ensures)) (passes_slots (marked_desk d c.args.job.level c.args.job.piece) _ d.begun (marked_slots d c.args.job.level c.args.job.piece c.requires.standing.slots c.requires.level))
