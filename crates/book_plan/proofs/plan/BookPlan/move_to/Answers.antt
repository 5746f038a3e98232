use Rattle.std.proofs.Common.{◌≡◌, ◌+◌, ℤ, ap, ◌∙◌, rules, arith}
use Rattle.plan_model.specs.declared.events.Event.TheVariants.{Move}
use mir.Syntax.{w32}
use mir.Val.{of_z, to_z}
use mathlib.Core.Path.{ap₂}
use Rattle.plan_model.specs.Steps.{move_step}
use Rattle.book_plan.specs.Books.{PlanView}
use Rattle.book_plan.specs.Desks.{state_of}
use Rattle.book_plan.proofs.Kept.{still_at}
use Rattle.book_plan.proofs.plan.BookPlan.move_to.Goals as goal

pub invariant_of-self : goal.invariant_of-self
invariant_of-self c =
    let s = c.self.inside in
    let same : s.moves ≡ c.args.self.now.moves = ap (λ (v : PlanView). v.moves) c.self.view_is in
    let x : to_z w32 (of_z w32 c.args.x) ≡ c.args.x = search rules in
    let y : to_z w32 (of_z w32 c.args.y) ≡ c.args.y = search rules in
    let state : state_of c.move_to.new.self ≡ (move_step (state_of s.desk) c.args.x c.args.y c.args.a).state = c.move_to.ensures.state ∙ ap₂ (λ (i j : ℤ). (move_step (state_of s.desk) i j c.args.a).state) x y in
    still_at c.steps_keep_soundness.ensures s.desk c.move_to.new.self s.moves (s.moves + 1) 0 (Move c.args.x c.args.y c.args.a) c.self.invariant c.requires.viewer state c.move_to.ensures.slots (omega arith) (omega (arith, same, c.requires.moves)) (omega (arith, c.self.invariant.few_frames))
