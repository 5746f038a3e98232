use Rattle.std.proofs.Common.{rules, ◌≡◌, ◌<◌, ℕ, length, get_or, Some, None, sym, subst, ◌∙◌}
use Rattle.grid_fills.proofs.Holding.{any_default}
use Rattle.grid_fills.proofs.tests.events.finish.Goals as goal

pub give_back-requires-clause-job : goal.give_back-requires-clause-job
give_back-requires-clause-job g c =
    let place = c.index-jobs-pass.result in
    let there : c.args.pass < length c.args.jobs.now = subst (λ (n : ℕ). c.args.pass < n) (sym c.requires.many) c.requires.pass in
    let read : get_or c.args.jobs.now c.args.pass place ≡ place = search rules in
    let some : place ≡ Some c.in-Some.job = search rules in
    c.requires.jobs c.args.pass c.in-Some.job (any_default c.args.jobs.now c.args.pass None place there ∙ read ∙ some)
