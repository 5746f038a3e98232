use Rattle.std.proofs.Common.{◌≡◌, length, length-set, Some, refl, sym, subst, ap, ◌∙◌, set}
use Rattle.std.proofs.lemmas.List.{with_items_is}
use Rattle.plan_model.specs.declared.events.Answer.TheVariants.{Idle, Ripe, Busy, Held, HasWork}
use Rattle.clip_desk.specs.Desks.{HasJobs}
use Rattle.clip_desk.proofs.Jobs.{given_claim, refused_claim}
use Rattle.clip_desk.proofs.desk.Desk.claim.Goals as goal

pub invariant_of-self : goal.invariant_of-self
invariant_of-self g c =
    let is : c.keep_job.new.jobs ≡ set c.self.inside.jobs.items c.args.pass (Some c.fill.result) = c.keep_job.ensures ∙ ap (λ js. set js c.args.pass (Some c.fill.result)) c.as_mut_slice.ensures.value in
    let whole : length c.keep_job.new.jobs ≡ c.self.inside.jobs.len = ap length is ∙ length-set c.self.inside.jobs.items c.args.pass (Some c.fill.result) ∙ sym c.self.inside.jobs.ok.0 in
    subst (HasJobs c.claim.new.self) (sym (with_items_is c.self.inside.jobs c.keep_job.new.jobs whole ∙ is))
    (given_claim c.others_keep_parts.ensures c.args.pass _ c.self.inside.book c.claim.new.self c.self.inside.jobs.items c.fill.result c.requires.pass c.in-Job.ensures.does
    (c.filled_jobs_go_back.ensures c.claim.new.self c.args.pass c.in-Job.job c.fill.result c.in-Job.ensures.job c.fill.ensures.filled) c.self.invariant)

pub invariant_of-self-in-Idle : goal.invariant_of-self-in-Idle
invariant_of-self-in-Idle g c =
    refused_claim c.refusals_change_nothing.ensures c.args.pass Idle c.self.inside.book c.claim.new.self c.self.inside.jobs.items refl c.in-Idle.ensures.does c.in-Idle.ensures.handed c.self.invariant

pub invariant_of-self-in-Ripe : goal.invariant_of-self-in-Ripe
invariant_of-self-in-Ripe g c =
    refused_claim c.refusals_change_nothing.ensures c.args.pass (Ripe c.in-Ripe.level) c.self.inside.book c.claim.new.self c.self.inside.jobs.items refl c.in-Ripe.ensures.does c.in-Ripe.ensures.handed c.self.invariant

pub invariant_of-self-in-Busy : goal.invariant_of-self-in-Busy
invariant_of-self-in-Busy g c =
    refused_claim c.refusals_change_nothing.ensures c.args.pass (Busy c.in-Busy.level c.in-Busy.tile c.in-Busy.frame) c.self.inside.book c.claim.new.self c.self.inside.jobs.items refl c.in-Busy.ensures.does c.in-Busy.ensures.handed c.self.invariant

pub invariant_of-self-in-Held : goal.invariant_of-self-in-Held
invariant_of-self-in-Held g c =
    refused_claim c.refusals_change_nothing.ensures c.args.pass (Held c.in-Held.level c.in-Held.tile c.in-Held.pass) c.self.inside.book c.claim.new.self c.self.inside.jobs.items refl c.in-Held.ensures.does c.in-Held.ensures.handed c.self.invariant

pub invariant_of-self-in-HasWork : goal.invariant_of-self-in-HasWork
invariant_of-self-in-HasWork g c =
    refused_claim c.refusals_change_nothing.ensures c.args.pass HasWork c.self.inside.book c.claim.new.self c.self.inside.jobs.items refl c.in-HasWork.ensures.does c.in-HasWork.ensures.handed c.self.invariant
