-- One more level at each turn, the coarsest first.
use Rattle.std.proofs.Common.{◌≡◌, ℕ, ◌<◌, ◌≤◌, ◌-◌, not, filter, reverse, length, ap, subst, sym, ◌∙◌, arith}
use Rattle.std.specs.List.{range_with_len}
use Rattle.std.specs.Option.{IfSome}
use Rattle.plan_model.specs.Strips.{first_of}
use Rattle.plan_model.specs.States.{finest_at, is_whole}
use Rattle.book_plan.proofs.Firsts.{first_down, found_below}
use Rattle.book_plan.specs.Desks.{state_of}
use Rattle.book_plan.proofs.answers.coarsest_unfilled.Goals as goal

pub loop-level-preserved : goal.loop-level-preserved
loop-level-preserved c =
    let some : 0 < c.loop-level.level = omega arith in
    let few : c.loop-level.level ≤ length (state_of c.args.desk.now).levels = omega (arith, c.loop-level.auto.level, c.level_count-level.ensures.value) in
    let below : c.loop-level.level - 1 < length (state_of c.args.desk.now).levels = omega arith in
    record {
      value = first_down (λ (n : ℕ). not (is_whole (state_of c.args.desk.now) n)) c.loop-level.level (length (state_of c.args.desk.now).levels) c.loop-level.first c.or_found-first.result (not c.is_whole-unfilled.result) some few (ap not c.is_whole-unfilled.ensures.value) c.loop-level.invariant.value c.or_found-first.ensures.value;
      least = omega (arith, c.loop-level-test.true, c.finest-level-start.ensures.value);
      there = subst (λ o. IfSome o (λ (n : ℕ). n < length (state_of c.args.desk.now).levels)) (sym c.or_found-first.ensures.value) (found_below (length (state_of c.args.desk.now).levels) c.loop-level.first (not c.is_whole-unfilled.result) (c.loop-level.level - 1) below c.loop-level.invariant.there);
    }

pub returns-clause-value : goal.returns-clause-value
returns-clause-value c =
    let at_end : c.loop-level.level ≡ finest_at (state_of c.args.desk.now) = omega (arith, c.loop-level-test.false, c.loop-level.invariant.least, c.finest-level-start.ensures.value) in
    c.loop-level.invariant.value ∙ ap (λ (i : ℕ). first_of (filter (λ (n : ℕ). not (is_whole (state_of c.args.desk.now) n)) (reverse (range_with_len i (length (state_of c.args.desk.now).levels - i))))) at_end
