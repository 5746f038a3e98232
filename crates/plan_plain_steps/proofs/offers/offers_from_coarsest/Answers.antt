-- One more level at each turn.
use Rattle.std.proofs.Common.{◌≡◌, ℕ, ◌<◌, ◌≤◌, ◌-◌, ◌++◌, List, flat_map, reverse, length, ap, ◌∙◌, arith}
use Rattle.std.specs.List.{range_with_len}
use Rattle.plan_model.specs.States.{finest_at}
use Rattle.plan_model.specs.Claims.{Offer, offers_of, strip_at}
use Rattle.plan_plain_steps.proofs.Ranges.{down_from}
use Rattle.plan_plain_steps.proofs.offers.offers_from_coarsest.Goals as goal

pub loop-level-preserved : goal.loop-level-preserved
loop-level-preserved c =
    let some : 0 < c.loop-level.level = omega arith in
    let few : c.loop-level.level ≤ length c.args.state.now.levels = omega (arith, c.loop-level.auto.level, c.level_count-level.ensures.value) in
    record {
      value = down_from (λ (n : ℕ). offers_of c.args.state.now n (strip_at c.args.state.now n)) c.loop-level.level (length c.args.state.now.levels) c.loop-level.out.items c.append.new.self.items some few c.loop-level.invariant.value (c.in_ok-append.ensures.items ∙ ap (λ (xs : List Offer). c.loop-level.out.items ++ xs) c.in_ok-more.ensures.value);
      least = omega (arith, c.loop-level-test.true, c.finest-level-start.ensures.value);
    }

pub returns : goal.returns
returns c =
    let at_end : c.loop-level.level ≡ finest_at c.args.state.now = omega (arith, c.loop-level-test.false, c.loop-level.invariant.least, c.finest-level-start.ensures.value) in
    record { value = c.loop-level.invariant.value ∙ ap (λ (i : ℕ). flat_map (λ (n : ℕ). offers_of c.args.state.now n (strip_at c.args.state.now n)) (reverse (range_with_len i (length c.args.state.now.levels - i)))) at_end }
