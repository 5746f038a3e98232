use Rattle.std.proofs.Common.{◌<◌, List, sym, subst, ◌∙◌, arith}
use Rattle.std.proofs.lemmas.List.Elements.{All-push}
use Rattle.std.specs.List.{All}
use Rattle.plan_model.specs.Rounds.{frame_pass}
use Rattle.decode_rounds.specs.declared.tasks.Task.{Task}
use Rattle.decode_rounds.specs.declared.tasks.Task.TheVariants as T
use Rattle.decode_rounds.specs.Rounds.{IsDoneOf, IsTaskOf}
use Rattle.decode_rounds.proofs.Homes.{are_tasks}
use Rattle.clip_rounds.proofs.RoundSteps.{drawn_is, homeward, popped_last, popped_some}
use Rattle.clip_rounds.proofs.work.fill_beside.Goals as goal

pub round-requires-clause-tasks : goal.round-requires-clause-tasks
round-requires-clause-tasks g c _ _ =
    let small : frame_pass < 16 = omega arith in
    subst (λ (all : List Task). All (IsTaskOf c.args.book.now) all) (sym {A = List Task} c.in-Ok.ensures.items)
    (All-push (IsTaskOf c.args.book.now) c.args.tasks.items (T.Draw frame_pass) (are_tasks c.args.book.now 0 c.args.tasks.items c.requires.claims.jobs) (small, c.requires.frame))

pub returns-clause-jobs : goal.returns-clause-jobs
returns-clause-jobs g c =
    let book = c.args.book.now in
    let last = popped_last (IsDoneOf book) c.args.tasks.items _ (T.Draw frame_pass) c.in-Ok-round.jobs.items c.pop.new.self.items c.pop.result c.in-Some-Drawn.field-0 c.in-Ok.ensures.items c.in-Ok-round.ensures.results c.pop.ensures.items c.in-Some-Drawn.is in
    homeward book c.filled_jobs_go_back.ensures c.args.tasks.items c.pop.new.self.items c.requires.claims last.0

pub returns-clause-mesh : goal.returns-clause-mesh
returns-clause-mesh g c =
    let book = c.args.book.now in
    let last = popped_last (IsDoneOf book) c.args.tasks.items _ (T.Draw frame_pass) c.in-Ok-round.jobs.items c.pop.new.self.items c.pop.result c.in-Some-Drawn.field-0 c.in-Ok.ensures.items c.in-Ok-round.ensures.results c.pop.ensures.items c.in-Some-Drawn.is in
    let drawn = subst (IsDoneOf book (T.Draw frame_pass)) c.in-Some-Drawn.field-0-is last.1 in
    drawn_is book c.in-Some-Drawn.field-0-0 c.in-Some-Drawn.mesh c.requires.frame drawn

pub unreachable-requires : goal.unreachable-requires
unreachable-requires g c =
    let book = c.args.book.now in
    let last = popped_last (IsDoneOf book) c.args.tasks.items _ (T.Draw frame_pass) c.in-Ok-round.jobs.items c.pop.new.self.items c.pop.result c.in-Some-Filled.field-0 c.in-Ok.ensures.items c.in-Ok-round.ensures.results c.pop.ensures.items c.in-Some-Filled.is in
    subst (IsDoneOf book (T.Draw frame_pass)) c.in-Some-Filled.field-0-is last.1

pub unreachable-requires-in-None : goal.unreachable-requires-in-None
unreachable-requires-in-None g c =
    let none = sym c.in-Ok-round.jobs.ok.0 ∙ c.in-None.ensures.cases.0 in
    popped_some (IsDoneOf c.args.book.now) c.args.tasks.items _ (T.Draw frame_pass) c.in-Ok-round.jobs.items c.in-Ok.ensures.items c.in-Ok-round.ensures.results none
