use Rattle.std.proofs.Common.{Ok, Err, refl, ap, sym, ◌∙◌, subst, is_some}
use Rattle.std.proofs.lemmas.Result.{err_from_is_err_and}
use Rattle.plan_model.specs.Rounds.{is_job}
use Rattle.plan_model.specs.declared.events.Event.TheVariants.{Claim}
use Rattle.run_actions.specs.Runs.{leaves_nothing}
use Rattle.clip_rounds.specs.Parts.{one, place_of}
use Rattle.clip_rounds.specs.Rounds.{IsClaimOf}
use Rattle.clip_rounds.proofs.OneEvent.{claim_of, flew_told, job_if_given, same_place, told_does}
use Rattle.clip_rounds.proofs.Flown.{flew_as}
use Rattle.clip_rounds.proofs.events.claim.Goals as goal

pub returns-clause-flew : goal.returns-clause-flew
returns-clause-flew g c = λ s name.
    let flight = c.args.flight.now in
    let land = flight.book.land in
    flew_as leaves_nothing land.terrain name (one c.args.pass Claim) (Ok tt) _ (place_of flight) _ s s (g.K.Sink.told c.args.out.now) (g.K.Sink.told c.tell.new.out) tt
    (flew_told leaves_nothing land.terrain name c.args.pass Claim (place_of flight) _ c.told_of_claim-answer.result (Ok tt) s (g.K.Sink.told c.args.out.now) (g.K.Sink.told c.tell.new.out) refl
    (c.told_of_claim-answer.ensures ∙ sym c.claim-claimed.ensures.does.plan.answered) c.in_ok-tell.ensures.ends c.in_ok-tell.ensures.calls c.in_ok-tell.ensures.reason c.in_ok-tell.ensures.faults_stay
    (same_place _ _ _ _ c.claim-claimed.ensures.does.plan.state refl))

pub returns-in_err-tell-clause-flew : goal.returns-in_err-tell-clause-flew
returns-in_err-tell-clause-flew g c = λ s name.
    let flight = c.args.flight.now in
    let land = flight.book.land in
    let p = err_from_is_err_and c.from_residual.result c.from_residual.ensures.1 in
    rw (p.1, p.2) (flew_as leaves_nothing land.terrain name (one c.args.pass Claim) (Err _) _ (place_of flight) _ s s (g.K.Sink.told c.args.out.now) (g.K.Sink.told c.tell.new.out) refl
    (flew_told leaves_nothing land.terrain name c.args.pass Claim (place_of flight) _ c.told_of_claim-answer.result (Err _) s (g.K.Sink.told c.args.out.now) (g.K.Sink.told c.tell.new.out) refl
    (c.told_of_claim-answer.ensures ∙ sym c.claim-claimed.ensures.does.plan.answered) c.in_err-tell.ensures.ends c.in_err-tell.ensures.calls c.in_err-tell.ensures.reason c.in_err-tell.ensures.faults_stay
    (same_place _ _ _ _ c.claim-claimed.ensures.does.plan.state refl)))

pub returns-clause-does : goal.returns-clause-does
returns-clause-does g c = told_does c.args.pass Claim _ c.args.flight.now.book c.claim-claimed.new.self c.claim-claimed.ensures.does

pub returns-in_err-tell-clause-does : goal.returns-in_err-tell-clause-does
returns-in_err-tell-clause-does g c = told_does c.args.pass Claim _ c.args.flight.now.book c.claim-claimed.new.self c.claim-claimed.ensures.does

pub returns-clause-job : goal.returns-clause-job
returns-clause-job g c = subst (IsClaimOf c.claim-claimed.new.self c.args.pass) (sym c.job_in-job.ensures) (claim_of c.claim-claimed.new.self c.args.pass c.claim-claimed.result c.claim-claimed.ensures.job)

pub returns-clause-given : goal.returns-clause-given
returns-clause-given g c = ap is_some c.job_in-job.ensures ∙ job_if_given c.claim-claimed.result ∙ ap is_job (sym c.claim-claimed.ensures.does.plan.answered)
