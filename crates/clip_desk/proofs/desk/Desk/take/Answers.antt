use Rattle.std.proofs.Common.{ap, ◌∙◌}
use Rattle.plan_model.specs.States.{State}
use Rattle.clip_desk.proofs.Jobs.{begun_jobs, ended_jobs, jobs_all}
use Rattle.clip_desk.proofs.desk.Desk.take.Goals as goal

pub invariant_of-self : goal.invariant_of-self
invariant_of-self g c =
    jobs_all c.self.inside.book c.move_to.new.self c.move_to.ensures.does.land c.self.inside.jobs.items c.self.invariant
    (ap (λ (st : State). st.passes) c.move_to.ensures.does.plan.state ∙ c.moves_leave_parts.ensures c.self.inside.book.plan.state 0 _ _ _) c.move_to.ensures.handed

pub invariant_of-self-in-Publish : goal.invariant_of-self-in-Publish
invariant_of-self-in-Publish g c =
    jobs_all c.self-in-Publish.inside.book c.publish.new.self c.publish.ensures.does.land c.self-in-Publish.inside.jobs.items c.self-in-Publish.invariant
    (ap (λ (st : State). st.passes) c.publish.ensures.does.plan.state ∙ c.publications_leave_parts.ensures c.self-in-Publish.inside.book.plan.state 0 c.in-Publish.level) c.publish.ensures.handed

pub invariant_of-self-in-Begin : goal.invariant_of-self-in-Begin
invariant_of-self-in-Begin g c =
    begun_jobs c.others_keep_parts.ensures c.args.pass _ c.self-in-Begin.inside.book c.begin.new.self c.self-in-Begin.inside.jobs.items c.begin.ensures.does c.begin.ensures.handed c.self-in-Begin.invariant

pub invariant_of-self-in-End : goal.invariant_of-self-in-End
invariant_of-self-in-End g c =
    ended_jobs c.others_keep_parts.ensures c.args.pass _ c.self-in-End.inside.book c.end.new.self c.self-in-End.inside.jobs.items c.end.ensures.does c.end.ensures.handed c.self-in-End.invariant
