-- One more round at each turn: what the rounds that are left make of the run stays as it was.
use Rattle.std.proofs.Common.{◌≡◌, ◌+◌, ◌-◌, ◌*◌, false, ap, sym, ◌∙◌, arith}
use Rattle.plan_model.specs.Histories.{Run}
use Rattle.plan_model.specs.Rounds.{is_settled, rounds}
use Rattle.plan_plain.proofs.Flown.{after_both, rounds_on}
use Rattle.plan_plain.proofs.rounds.rounds.Goals as goal

pub flown-preserved : goal.flown-preserved
flown-preserved c =
    let some : is_settled c.flown.run.state ≡ false = ap is_settled (sym c.state.ensures.value) ∙ sym c.is_settled.ensures.value ∙ c.if-is_settled.false in
    record {
      value = ap (λ (run : Run). rounds (c.args.most - (c.flown.counter + 1)) c.args.workers run) c.in_ok-round.ensures.value ∙ rounds_on c.args.workers c.flown.counter c.args.most c.flown.run c.flown-test.true some ∙ c.flown.invariant.value;
      after = after_both (64 * c.flown.counter) 64 (64 * (c.flown.counter + 1)) c.args.run.now c.flown.run c.round.new.run (omega arith) c.flown.invariant.after c.round.ensures.after;
    }
