-- One more level at each turn, the coarsest first.
use Rattle.std.proofs.Common.{◌≡◌, ℕ, ◌<◌, ◌≤◌, ◌-◌, flat_map, reverse, length, ap, ◌∙◌, arith}
use Rattle.std.specs.List.{range_with_len}
use Rattle.plan_model.specs.Strips.{first_of}
use Rattle.plan_model.specs.States.{finest_at}
use Rattle.book_plan.specs.Desks.{state_of}
use Rattle.book_plan.specs.Offered.{jobs_on}
use Rattle.book_plan.proofs.Firsts.{first_from}
use Rattle.book_plan.proofs.desk.PlanDesk.first_from_coarsest.Goals as goal

pub loop-level-preserved : goal.loop-level-preserved
loop-level-preserved c =
    let st = state_of c.args.self.now in
    let some : 0 < c.loop-level.level = omega arith in
    let few : c.loop-level.level ≤ length st.levels = omega (arith, c.loop-level.auto.level, c.level_count-level.ensures.value) in
    record {
      value = first_from (jobs_on st) c.loop-level.level (length st.levels) c.loop-level.first c.job_or-first.result some few c.loop-level.invariant.value c.job_or-first.ensures;
      least = omega (arith, c.loop-level-test.true, c.finest-level-start.ensures.value);
    }

pub returns : goal.returns
returns c =
    let st = state_of c.args.self.now in
    let at_end : c.loop-level.level ≡ finest_at st = omega (arith, c.loop-level-test.false, c.loop-level.invariant.least, c.finest-level-start.ensures.value) in
    c.loop-level.invariant.value ∙ ap (λ (i : ℕ). first_of (flat_map (jobs_on st) (reverse (range_with_len i (length st.levels - i))))) at_end
