-- One more claim at each turn: what the passes that are left make of the run stays as it was.
use Rattle.std.proofs.Common.{◌≡◌, ◌+◌, ◌-◌, true, false, ap, sym, ◌∙◌, arith}
use Rattle.std.specs.List.{range_with_len}
use Rattle.plan_model.specs.Histories.{Run}
use Rattle.plan_model.specs.Steps.{step}
use Rattle.plan_model.specs.Rounds.{is_job, claims}
use Rattle.plan_model.specs.declared.events.Event.TheVariants.{Claim}
use Rattle.plan_plain.proofs.Flown.{after_both, claims_on, claims_end, claims_none}
use Rattle.plan_plain.proofs.rounds.claims.Goals as goal

pub loop-p-preserved : goal.loop-p-preserved
loop-p-preserved c =
    let job : is_job (step c.loop-p.run.state c.loop-p.p Claim).answer ≡ true = ap is_job (sym c.in_ok-answer.ensures.answer) ∙ sym c.is_job.ensures.value ∙ c.if-not-is_job.false in
    record {
      value = ap (λ (run : Run). claims run (range_with_len (c.loop-p.p + 1) (c.args.workers - (c.loop-p.p + 1)))) c.in_ok-answer.ensures.value ∙ claims_on c.loop-p.run c.loop-p.p c.args.workers c.loop-p-test.true job ∙ c.loop-p.invariant.value;
      after = after_both c.loop-p.p 1 (c.loop-p.p + 1) c.args.run.now c.loop-p.run c.step.new.run (omega arith) c.loop-p.invariant.after c.step.ensures.after;
    }

pub returns-then-not-is_job-clause-value : goal.returns-then-not-is_job-clause-value
returns-then-not-is_job-clause-value c =
    let none : is_job (step c.loop-p.run.state c.loop-p.p Claim).answer ≡ false = ap is_job (sym c.in_ok-answer.ensures.answer) ∙ sym c.is_job.ensures.value ∙ c.if-not-is_job.true in
    c.in_ok-answer.ensures.value ∙ claims_end c.loop-p.run c.loop-p.p c.args.workers c.loop-p-test.true none ∙ c.loop-p.invariant.value

pub returns-clause-value : goal.returns-clause-value
returns-clause-value c =
    sym (claims_none c.loop-p.run c.loop-p.p c.args.workers c.loop-p-test.false) ∙ c.loop-p.invariant.value
