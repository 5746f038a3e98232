use Rattle.grid_fills.proofs.Holding.{quiet_stays}
use Rattle.grid_fills.proofs.tests.events.publish.Goals as goal

pub returns-clause-jobs : goal.returns-clause-jobs
returns-clause-jobs c =
    quiet_stays 0 _ _ c.args.book.now c.publish.new.self c.publish.ensures.does c.args.jobs.now (c.publications_leave_parts.ensures c.args.book.now.plan.state 0 c.args.level) c.publish.ensures.handed c.requires.jobs
