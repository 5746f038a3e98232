-- One more level at each turn, the coarsest first.
use Rattle.std.proofs.Common.{◌<◌, ◌≤◌, ◌-◌, length, ap, ◌∙◌, arith}
use Rattle.std.specs.Option.{option_or}
use Rattle.clip_regions.specs.declared.region.Region.{Region}
use Rattle.plan_model.specs.Strips.{first_of}
use Rattle.book_plan.specs.Desks.{state_of}
use Rattle.book_plan.specs.Found.{answers_on, answers_under}
use Rattle.book_plan.proofs.Firsts.{first_from}
use Rattle.book_plan.proofs.desk.PlanDesk.held_under.Goals as goal

pub loop-level-preserved : goal.loop-level-preserved
loop-level-preserved c =
    let st = state_of c.args.self.now in
    let some : 0 < c.loop-level.level = omega arith in
    let few : c.loop-level.level ≤ length st.levels = omega (arith, c.loop-level.auto.level, c.level_count-level.ensures.value) in
    first_from (answers_under st c.args.actives.now) c.loop-level.level (length st.levels) c.loop-level.first c.held_or-first.result some few c.loop-level.invariant (c.held_or-first.ensures ∙ ap (λ (r : Region). option_or c.loop-level.first (first_of (answers_on st (c.loop-level.level - 1) r))) c.at.ensures.value)
