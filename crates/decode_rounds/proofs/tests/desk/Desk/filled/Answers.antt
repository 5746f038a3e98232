use Rattle.std.proofs.Common.{List, [], append-nil, subst, sym}
use Rattle.std.specs.List.{AllZip}
use Rattle.decode_rounds.specs.declared.tasks.Task.{Task}
use Rattle.decode_rounds.specs.Rounds.{IsDoneOf}
use Rattle.decode_rounds.proofs.Homes.{are_tasks, all_back, none_back}
use Rattle.decode_rounds.proofs.tests.desk.Desk.filled.Goals as goal

pub round-requires-clause-tasks : goal.round-requires-clause-tasks
round-requires-clause-tasks g c κs within = are_tasks c.args.self.now.book 0 c.args.jobs.items c.requires.jobs

pub returns-in-Ok : goal.returns-in-Ok
returns-in-Ok g c =
    let book = c.args.self.now.book in
    let jobs = c.args.jobs.items in
    let all = c.in-Ok.all.items in
    let done = subst (λ (tasks : List Task). AllZip (IsDoneOf book) tasks all) (sym (append-nil jobs)) c.in-Ok.ensures.results in
    record { back = all_back book c.filled_jobs_go_back.ensures 0 jobs [] all c.requires.jobs (none_back book) done }
