use Rattle.std.proofs.Common.{◌≡◌, sym, subst}
use Rattle.std.specs.Prelude.{OnOk}
use Rattle.clip_script.specs.declared.step.Step.{Step}
use Rattle.clip_script.specs.declared.step.Step.TheVariants.{Book, EndSeen}
use Rattle.clip_desk.specs.Desks.{Goes}
use Rattle.clip_runs.specs.Stages.{HasTaken}
use Rattle.plan_model.specs.declared.events.Event.TheVariants.{End}
use Rattle.clip_runs.proofs.Steps.{book_taken, done_both, seen_taken}
use Rattle.clip_runs.proofs.play.take_step.Goals as goal

pub returns-in-Book-clause-taken : goal.returns-in-Book-clause-taken
returns-in-Book-clause-taken g c =
    subst (λ (s : Step). OnOk c.take_book.result (HasTaken s c.args.stage.now c.take_book.new.stage)) (sym c.in-Book.is)
    (done_both c.take_book.result (Goes c.in-Book.pass c.in-Book.event c.args.stage.now.desk c.take_book.new.stage.desk) (c.take_book.new.stage.view ≡ c.args.stage.now.view) (HasTaken (Book c.in-Book.pass c.in-Book.event) c.args.stage.now c.take_book.new.stage)
    (λ goes view. book_taken c.steps_go_on.ensures c.in-Book.pass c.in-Book.event c.args.stage.now c.take_book.new.stage goes view) c.take_book.ensures.goes c.take_book.ensures.view)

pub returns-in-EndSeen-clause-taken : goal.returns-in-EndSeen-clause-taken
returns-in-EndSeen-clause-taken g c =
    subst (λ (s : Step). OnOk c.end_seen.result (HasTaken s c.args.stage.now c.end_seen.new.stage)) (sym c.in-EndSeen.is)
    (done_both c.end_seen.result (Goes c.in-EndSeen.pass End c.args.stage.now.desk c.end_seen.new.stage.desk) (c.end_seen.new.stage.view ≡ c.args.stage.now.view) (HasTaken (EndSeen c.in-EndSeen.pass) c.args.stage.now c.end_seen.new.stage)
    (λ goes view. seen_taken c.steps_go_on.ensures c.in-EndSeen.pass c.args.stage.now c.end_seen.new.stage goes view) c.end_seen.ensures.goes c.end_seen.ensures.view)
