use Rattle.grid_fills.proofs.Holding.{quiet_stays}
use Rattle.grid_fills.proofs.tests.events.move_viewer.Goals as goal

pub returns-clause-jobs : goal.returns-clause-jobs
returns-clause-jobs c =
    quiet_stays 0 _ _ c.args.book.now c.move_to.new.self c.move_to.ensures.does c.args.jobs.now (c.moves_leave_parts.ensures c.args.book.now.plan.state 0 _ _ c.args.a) c.move_to.ensures.handed c.requires.jobs
