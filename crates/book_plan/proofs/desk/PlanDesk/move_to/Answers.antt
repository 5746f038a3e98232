use Rattle.std.proofs.Common.{◌≡◌, ℤ, ap, sym, ◌∙◌, refl, subst, rules}
use mathlib.Core.Path.{ap₂}
use mir.Syntax.{w32}
use mir.Val.{of_z, to_z}
use Rattle.plan_model.specs.Steps.{move_step}
use Rattle.book_plan.specs.Desks.{state_of, HaveSlots}
use Rattle.book_plan.specs.declared.viewers.Viewer.{Viewer}
use Rattle.book_plan.proofs.Moved.{moved_state, moved_slots}
use Rattle.book_plan.proofs.desk.PlanDesk.move_to.Goals as goal

pub returns-clause-answer : goal.returns-clause-answer
unfolding move_step
returns-clause-answer c = refl

pub returns-clause-state : goal.returns-clause-state
returns-clause-state c =
    let to : Viewer = record { x = to_z w32 (of_z w32 c.args.x); y = to_z w32 (of_z w32 c.args.y); a = c.args.a } in
    let x : to_z w32 (of_z w32 c.args.x) ≡ c.args.x = search rules in
    let y : to_z w32 (of_z w32 c.args.y) ≡ c.args.y = search rules in
    ap state_of c.move_viewer.ensures ∙ moved_state c.args.self.now to ∙ ap₂ (λ (i j : ℤ). (move_step (state_of c.args.self.now) i j c.args.a).state) x y

pub returns-clause-slots : goal.returns-clause-slots
returns-clause-slots c =
    let to : Viewer = record { x = to_z w32 (of_z w32 c.args.x); y = to_z w32 (of_z w32 c.args.y); a = c.args.a } in
    subst HaveSlots (sym c.move_viewer.ensures) (moved_slots c.inside_is_held.ensures c.windows_have_cells.ensures c.args.self.now to c.requires.standing.slots)
