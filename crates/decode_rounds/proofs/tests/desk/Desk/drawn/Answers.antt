use Rattle.std.proofs.Common.{rules, List, [], ◌∷◌, All, subst, sym}
use Rattle.std.specs.List.{AllZip}
use Rattle.std.proofs.lemmas.List.Elements.{All-push}
use Rattle.decode_rounds.specs.declared.tasks.Task.{Task}
use Rattle.decode_rounds.specs.declared.tasks.Task.TheVariants as T
use Rattle.decode_rounds.specs.Rounds.{IsTaskOf, IsDoneOf}
use Rattle.decode_rounds.proofs.Homes.{are_tasks, all_back, draw_back}
use Rattle.decode_rounds.proofs.tests.desk.Desk.drawn.Goals as goal

pub round-requires-clause-tasks : goal.round-requires-clause-tasks
round-requires-clause-tasks g c κs within =
    let book = c.args.self.now.book in
    let jobs = c.args.jobs.items in
    let one : IsTaskOf book (T.Draw 15) = search rules in
    subst (λ (tasks : List Task). All (IsTaskOf book) tasks) (sym {A = List Task} c.in_ok-push.ensures.items) (All-push (IsTaskOf book) jobs (T.Draw 15) (are_tasks book 0 jobs c.requires.jobs) one)

pub returns-in-Ok : goal.returns-in-Ok
returns-in-Ok g c =
    let book = c.args.self.now.book in
    let all = c.in-Ok.all.items in
    let done = subst (λ (tasks : List Task). AllZip (IsDoneOf book) tasks all) c.in_ok-push.ensures.items c.in-Ok.ensures.results in
    record { back = all_back book c.filled_jobs_go_back.ensures 0 c.args.jobs.items (T.Draw 15 ∷ []) all c.requires.jobs (draw_back book 15) done }
