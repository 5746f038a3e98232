-- One result more behind those of the tasks before.
use Rattle.std.proofs.Common.{List, [], ◌∷◌, ◌++◌, subst, sym}
use Rattle.std.specs.List.{AllZip}
use Rattle.decode_rounds.specs.declared.tasks.Done.{Done}
use Rattle.decode_rounds.specs.Rounds.{IsDoneOf}
use Rattle.decode_rounds.proofs.Zipped.{zipped_append}
use Rattle.decode_rounds.proofs.rounds.in_turn.Goals as goal

pub loop-task-preserved : goal.loop-task-preserved
loop-task-preserved g c =
    let R = IsDoneOf c.args.book.now in
    let before = c.loop-task.yielded in
    let task = c.in-Some.task in
    let done = c.in_ok-done.done in
    subst (λ (all : List Done). AllZip R (before ++ task ∷ []) all) (sym {A = List Done} c.in-Ok.ensures.items) (zipped_append R before (task ∷ []) c.loop-task.all.items (done ∷ []) c.loop-task.invariant (c.in_ok-done.ensures.result, tt))
