-- One more level at each turn, the coarsest first.
use Rattle.std.proofs.Common.{◌≡◌, ℕ, ◌-◌, ◌<◌, ◌≤◌, fold, length, reverse, ap, ◌∙◌, arith}
use Rattle.std.specs.List.{range_with_len}
use Rattle.plan_model.specs.States.{State}
use Rattle.plan_model.specs.Rounds.{publish_of, publishes}
use Rattle.plan_plain.proofs.Flown.{after_both, folded_down}
use Rattle.plan_plain.proofs.rounds.publishes.Goals as goal

pub loop-l-preserved : goal.loop-l-preserved
loop-l-preserved c =
    let some : 0 < c.loop-l.l = omega arith in
    let few : c.loop-l.l ≤ length c.args.run.now.state.levels = omega (arith, c.loop-l.auto.l, c.level_count-count.ensures.value ∙ ap (λ (st : State). length st.levels) c.state.ensures.value) in
    record {
      value = folded_down publish_of c.args.run.now c.loop-l.run c.publish_of.new.run c.loop-l.l (length c.args.run.now.state.levels) some few c.loop-l.invariant.value c.in_ok-publish_of.ensures.value;
      after = after_both (length c.args.run.now.state.levels - c.loop-l.l) 1 (length c.args.run.now.state.levels - (c.loop-l.l - 1)) c.args.run.now c.loop-l.run c.publish_of.new.run (omega arith) c.loop-l.invariant.after c.publish_of.ensures.after;
    }

pub returns-clause-value : goal.returns-clause-value
unfolding publishes
returns-clause-value c =
    let at_end : c.loop-l.l ≡ 0 = omega arith in
    let whole : length c.args.run.now.state.levels - 0 ≡ length c.args.run.now.state.levels = omega arith in
    c.loop-l.invariant.value ∙ ap (λ (n : ℕ). fold publish_of c.args.run.now (reverse (range_with_len n (length c.args.run.now.state.levels - n)))) at_end ∙ ap (λ (m : ℕ). fold publish_of c.args.run.now (reverse (range_with_len 0 m))) whole
