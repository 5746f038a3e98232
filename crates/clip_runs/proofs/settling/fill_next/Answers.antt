use Rattle.std.proofs.Common.{◌≡◌, true, refl, sym, ap, ◌∙◌, arith}
use Rattle.plan_model.specs.Steps.{step}
use Rattle.plan_model.specs.Rounds.{is_job}
use Rattle.plan_model.specs.declared.events.Event.TheVariants.{Claim, Finish}
use Rattle.clip_desk.specs.Desks.{Stays}
use Rattle.clip_desk.proofs.Stays.{event_stays, stays_then}
use Rattle.clip_runs.proofs.Settles.{fill_is, job_was_offered, none_leaves, none_settled}
use Rattle.clip_runs.proofs.settling.fill_next.Goals as goal

pub take-requires-clause-begun : goal.take-requires-clause-begun
take-requires-clause-begun g c =
    let first : Stays c.args.desk.now c.take-answer.new.self = event_stays c.steps_go_on.ensures 0 Claim _ c.args.desk.now c.take-answer.new.self refl refl c.take-answer.ensures.takes in
    omega (arith, first.begun, c.requires.begun)

pub publish_ripe-requires-clause-begun : goal.publish_ripe-requires-clause-begun
publish_ripe-requires-clause-begun g c =
    let first : Stays c.args.desk.now c.take-answer.new.self = event_stays c.steps_go_on.ensures 0 Claim _ c.args.desk.now c.take-answer.new.self refl refl c.take-answer.ensures.takes in
    let second : Stays c.take-answer.new.self c.take.new.self = event_stays c.steps_go_on.ensures 0 Finish _ c.take-answer.new.self c.take.new.self refl refl c.take.ensures.takes in
    omega (arith, first.begun, second.begun, c.requires.begun)

pub returns-then-is_job-clause-filled : goal.returns-then-is_job-clause-filled
returns-then-is_job-clause-filled g c = λ _.
    let job : is_job (step c.args.desk.now.plan.state 0 Claim).answer ≡ true = ap is_job c.take-answer.ensures.takes.plan.answered ∙ sym c.is_job.ensures ∙ c.if-is_job.true in
    fill_is c.others_keep_parts.ensures c.passes_are_kept.ensures c.args.desk.now.plan.state c.take-answer.new.self.plan.state c.take.new.self.plan.state c.publish_ripe.new.desk.plan.state
    c.requires.rest job c.take-answer.ensures.takes.plan.state c.take.ensures.takes.plan.state c.publish_ripe.ensures.state

pub returns-then-is_job-clause-offered : goal.returns-then-is_job-clause-offered
returns-then-is_job-clause-offered g c = λ _.
    job_was_offered c.args.desk.now.plan.state c.requires.rest (ap is_job c.take-answer.ensures.takes.plan.answered ∙ sym c.is_job.ensures ∙ c.if-is_job.true)

pub returns-then-is_job-clause-stays : goal.returns-then-is_job-clause-stays
returns-then-is_job-clause-stays g c =
    let first : Stays c.args.desk.now c.take-answer.new.self = event_stays c.steps_go_on.ensures 0 Claim _ c.args.desk.now c.take-answer.new.self refl refl c.take-answer.ensures.takes in
    let second : Stays c.take-answer.new.self c.take.new.self = event_stays c.steps_go_on.ensures 0 Finish _ c.take-answer.new.self c.take.new.self refl refl c.take.ensures.takes in
    stays_then c.args.desk.now c.take-answer.new.self c.publish_ripe.new.desk first (stays_then c.take-answer.new.self c.take.new.self c.publish_ripe.new.desk second c.publish_ripe.ensures.stays)

pub returns-else-is_job-clause-settled : goal.returns-else-is_job-clause-settled
returns-else-is_job-clause-settled g c = λ _.
    none_settled c.args.desk.now.plan.state c.requires.rest c.laws_below.ensures (ap is_job c.take-answer.ensures.takes.plan.answered ∙ sym c.is_job.ensures ∙ c.if-is_job.false)

pub returns-else-is_job-clause-same : goal.returns-else-is_job-clause-same
returns-else-is_job-clause-same g c = λ _.
    c.take-answer.ensures.takes.plan.state ∙ none_leaves c.args.desk.now.plan.state c.requires.rest (ap is_job c.take-answer.ensures.takes.plan.answered ∙ sym c.is_job.ensures ∙ c.if-is_job.false)

pub returns-else-is_job-clause-stays : goal.returns-else-is_job-clause-stays
returns-else-is_job-clause-stays g c =
    event_stays c.steps_go_on.ensures 0 Claim _ c.args.desk.now c.take-answer.new.self refl refl c.take-answer.ensures.takes
