-- One more pass at each turn.
use Rattle.std.proofs.Common.{◌≡◌, ℕ, ◌+◌, fold, ap, sym, ◌∙◌, arith}
use Rattle.std.specs.List.{range_with_len}
use Rattle.plan_model.specs.Rounds.{finish_of, finishes}
use Rattle.plan_plain.proofs.Flown.{after_both, folded_more}
use Rattle.plan_plain.proofs.rounds.finishes.Goals as goal

pub loop-p-preserved : goal.loop-p-preserved
loop-p-preserved c = record {
  value = folded_more finish_of c.args.run.now c.loop-p.run c.finish_of.new.run c.loop-p.p c.loop-p.invariant.value c.in_ok-finish_of.ensures.value;
  after = after_both c.loop-p.p 1 (c.loop-p.p + 1) c.args.run.now c.loop-p.run c.finish_of.new.run (omega arith) c.loop-p.invariant.after c.finish_of.ensures.after;
}

pub returns-clause-value : goal.returns-clause-value
unfolding finishes
returns-clause-value c =
    let at_end : c.loop-p.p ≡ 16 = omega arith in
    c.loop-p.invariant.value ∙ ap (λ (n : ℕ). fold finish_of c.args.run.now (range_with_len 0 n)) (at_end ∙ sym c.requires.sound.passes)
