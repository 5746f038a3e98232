use Rattle.std.proofs.Common.{refl}
use Rattle.grid_fills.proofs.Holding.{refused_stays}
use Rattle.grid_fills.proofs.tests.events.begin_in_vain.Goals as goal

pub returns-clause-jobs : goal.returns-clause-jobs
returns-clause-jobs g c =
    refused_stays c.args.pass _ _ c.args.book.now c.begin.new.self c.in-HasWork.ensures.does c.refusals_change_nothing.ensures c.args.jobs.now refl c.in-HasWork.ensures.handed c.requires.jobs
