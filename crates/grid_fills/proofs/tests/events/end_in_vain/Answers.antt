use Rattle.std.proofs.Common.{refl}
use Rattle.grid_fills.proofs.Holding.{refused_stays}
use Rattle.grid_fills.proofs.tests.events.end_in_vain.Goals as goal

pub returns-clause-jobs : goal.returns-clause-jobs
returns-clause-jobs g c =
    refused_stays c.args.pass _ _ c.args.book.now c.end.new.self c.in-NoFrame.ensures.does c.refusals_change_nothing.ensures c.args.jobs.now refl c.in-NoFrame.ensures.handed c.requires.jobs
