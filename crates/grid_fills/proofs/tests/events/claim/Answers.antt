use Rattle.std.proofs.Common.{sym, subst, ◌<◌, ℕ}
use Rattle.grid_fills.proofs.Holding.{others_stay, new_stays}
use Rattle.grid_fills.proofs.tests.events.claim.Goals as goal

pub returns-in-Job-clause-jobs : goal.returns-in-Job-clause-jobs
returns-in-Job-clause-jobs c =
    new_stays c.args.pass _ _ c.args.book.now c.claim.new.self c.claim.ensures.does c.others_keep_parts.ensures c.args.jobs.now c.in-Job.job (subst (λ (n : ℕ). c.args.pass < n) (sym c.requires.many) c.requires.pass) c.in-Job.ensures.job c.requires.jobs

pub returns-in_default-clause-jobs : goal.returns-in_default-clause-jobs
returns-in_default-clause-jobs c =
    others_stay c.args.pass _ _ c.args.book.now c.claim.new.self c.claim.ensures.does c.others_keep_parts.ensures c.args.jobs.now c.requires.free c.requires.jobs
