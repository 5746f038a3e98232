use Rattle.std.proofs.Common.{ℕ, filter, length, get_or, List, ap, ◌∙◌}
use Rattle.std.specs.List.{range_with_len}
use Rattle.plan_model.specs.Strips.{first_of}
use Rattle.plan_model.specs.States.{Pass, job_of}
use Rattle.plan_model.specs.Tiles.{holder, job_holds}
use Rattle.plan_model.specs.declared.events.Work.TheVariants.{Free}
use Rattle.book_plan.specs.Desks.{Desk, state_of}
use Rattle.book_plan.proofs.desk.PlanDesk.holder.Goals as goal

pub returns : goal.returns
unfolding holder
returns c = record {
  value = c.holder_of.ensures.value ∙ ap (λ (passes : List Pass). first_of (filter (λ (p : ℕ). job_holds c.self.inside.k c.args.level c.args.t (job_of (get_or passes p Free))) (range_with_len 0 (length passes)))) c.as_slice.ensures.value ∙ ap (λ (d : Desk). holder (state_of d) c.args.level c.args.t) c.self.view_is;
}
