use Rattle.grid_fills.proofs.Holding.{others_stay}
use Rattle.grid_fills.proofs.tests.events.give_back.Goals as goal

pub returns-clause-jobs : goal.returns-clause-jobs
returns-clause-jobs c =
    others_stay c.args.pass _ _ c.args.book.now c.give_back.new.self c.give_back.ensures.does c.others_keep_parts.ensures c.args.jobs.now c.requires.free c.requires.jobs
