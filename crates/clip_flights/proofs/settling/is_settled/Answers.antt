use Rattle.std.proofs.Common.{◌≡◌, ℕ, ◌-◌, ◌≤◌, length, ap, ◌∙◌, arith}
use Rattle.std.specs.List.{range_with_len, list_all}
use Rattle.plan_model.specs.States.{finest_at, is_whole}
use Rattle.plan_model.specs.Rounds.{is_settled}
use Rattle.plan_plain.proofs.Flown.{settled_more}
use Rattle.clip_flights.proofs.InUse.{finest_within}
use Rattle.clip_flights.proofs.settling.is_settled.Goals as goal

pub loop-level-preserved : goal.loop-level-preserved
loop-level-preserved c =
    let st = c.args.book.now.plan.state in
    let from : finest_at st ≤ c.loop-level.level = omega (arith, c.finest-level.ensures, c.loop-level.auto.level) in
    settled_more (is_whole st) (finest_at st) c.loop-level.level c.loop-level.settled c.is_whole-whole.result from c.is_whole-whole.ensures c.loop-level.invariant

pub returns : goal.returns
unfolding is_settled
returns c =
    let st = c.args.book.now.plan.state in
    let at_end : c.loop-level.level ≡ length st.levels = omega (arith, c.loop-level-test.false, c.loop-level.auto.level-end, c.levels-level-end.ensures, c.finest-level.ensures, finest_within st) in
    c.loop-level.invariant ∙ ap (λ (n : ℕ). list_all (is_whole st) (range_with_len (finest_at st) (n - finest_at st))) at_end
