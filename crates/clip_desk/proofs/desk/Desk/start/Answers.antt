use Rattle.clip_desk.proofs.Jobs.{start_jobs}
use Rattle.clip_desk.proofs.desk.Desk.start.Goals as goal

pub invariant_of-result : goal.invariant_of-result
invariant_of-result c = start_jobs c.args.k c.args.shape c.in-Ok-start.book c.in-Ok.jobs.items c.in-Ok-start.ensures.plan c.in-Ok.ensures
