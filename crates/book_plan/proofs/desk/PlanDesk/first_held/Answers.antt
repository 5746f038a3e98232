use Rattle.std.proofs.Common.{List, ap, ◌∙◌}
use Rattle.plan_model.specs.States.{Pass}
use Rattle.book_plan.specs.Found.{first_under}
use Rattle.book_plan.specs.Desks.{Desk, state_of}
use Rattle.book_plan.proofs.Held.{first_is}
use Rattle.book_plan.proofs.desk.PlanDesk.first_held.Goals as goal

pub returns : goal.returns
returns c = record {
  value = c.first_under.ensures ∙ ap (λ (passes : List Pass). first_under c.self.inside.k c.args.level c.args.region passes) c.as_slice.ensures.value ∙ ap (λ (d : Desk). first_under d.k c.args.level c.args.region d.passes) c.self.view_is ∙ first_is (state_of c.args.self.now) c.args.level c.args.region c.requires.size;
}
