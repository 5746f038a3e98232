-- One more level at each turn.
use Rattle.std.proofs.Common.{◌≡◌, ℕ, ◌-◌, ◌≤◌, length, ap, ◌∙◌, arith}
use Rattle.std.specs.List.{range_with_len, list_all}
use Rattle.plan_model.specs.States.{finest_at, is_whole}
use Rattle.plan_model.specs.Rounds.{is_settled}
use Rattle.plan_plain.proofs.Flown.{settled_more}
use Rattle.plan_plain.proofs.rounds.is_settled.Goals as goal

pub loop-l-preserved : goal.loop-l-preserved
loop-l-preserved c =
    let from : finest_at c.args.state.now ≤ c.loop-l.l = omega (arith, c.finest-l.ensures.value, c.loop-l.auto.l) in
    settled_more (is_whole c.args.state.now) (finest_at c.args.state.now) c.loop-l.l c.loop-l.settled c.is_whole-whole.result from c.is_whole-whole.ensures.value c.loop-l.invariant

pub returns : goal.returns
unfolding is_settled
returns c =
    let at_end : c.loop-l.l ≡ length c.args.state.now.levels = omega (arith, c.loop-l-test.false, c.loop-l.auto.l-end, c.level_count-l-end.ensures.value, c.finest-l.ensures.below) in
    record { value = c.loop-l.invariant ∙ ap (λ (n : ℕ). list_all (is_whole c.args.state.now) (range_with_len (finest_at c.args.state.now) (n - finest_at c.args.state.now))) at_end }
