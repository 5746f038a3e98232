use Rattle.std.proofs.Common.{◌≡◌, length, length-set, None, sym, subst, ap, ◌∙◌, set}
use Rattle.std.proofs.lemmas.List.{with_items_is}
use Rattle.plan_model.specs.declared.events.Event.TheVariants.{Finish}
use Rattle.plan_model.specs.declared.events.Answer.TheVariants.{Idle}
use Rattle.clip_desk.specs.Desks.{HasJobs, Takes}
use Rattle.clip_desk.proofs.Jobs.{given_finish, no_finish}
use Rattle.clip_desk.proofs.desk.Desk.finish.Goals as goal

pub returns-then-not-has_job : goal.returns-then-not-has_job
returns-then-not-has_job c = record {
  takes = subst (λ v. Takes c.args.pass Finish Idle v v) c.self.view_is (no_finish c.args.pass c.self.inside.book (sym c.has_job.ensures ∙ c.if-not-has_job.true));
}

pub invariant_of-self : goal.invariant_of-self
invariant_of-self c =
    let is : c.take_job.new.jobs ≡ set c.self.inside.jobs.items c.args.pass None = c.take_job.ensures.rest ∙ ap (λ js. set js c.args.pass None) c.as_mut_slice.ensures.value in
    let whole : length c.take_job.new.jobs ≡ c.self.inside.jobs.len = ap length is ∙ length-set c.self.inside.jobs.items c.args.pass None ∙ sym c.self.inside.jobs.ok.0 in
    subst (HasJobs c.give_back.new.self) (sym (with_items_is c.self.inside.jobs c.take_job.new.jobs whole ∙ is))
    (given_finish c.others_keep_parts.ensures c.args.pass _ c.self.inside.book c.give_back.new.self c.self.inside.jobs.items c.requires.pass c.give_back.ensures.does (sym c.has_job.ensures ∙ c.if-not-has_job.false) c.self.invariant)
