use Rattle.std.proofs.Common.{sym, subst, ap, ◌∙◌, None, ◌≡◌}
use Rattle.plan_model.specs.States.{frame_of, pass_at}
use Rattle.clip_book.specs.Books.{BookView}
use Rattle.run_actions.specs.Runs.{Ran}
use Rattle.run_actions.proofs.Ends.{ran_write}
use Rattle.clip_runs.proofs.Steps.{no_frame_line}
use Rattle.clip_runs.proofs.play.end_frame.Goals as goal

pub returns-in-None-clause-ran : goal.returns-in-None-clause-ran
returns-in-None-clause-ran g c =
    let none : None ≡ frame_of (pass_at c.args.stage.now.desk.plan.state c.args.pass) = c.in-None.ensures ∙ ap (λ (v : BookView). frame_of (pass_at v.plan.state c.args.pass)) c.book.ensures in
    subst (λ actions. Ran g.S.Shelf.leaves 0 actions c.take_event.result (g.S.Shelf.told c.args.shelf.now) (g.S.Shelf.told c.args.shelf.now) (g.K.Sink.told c.args.out.now) (g.K.Sink.told c.take_event.new.out))
    (no_frame_line c.args.stage.now.desk.land.terrain c.args.means.now.name.now c.args.stage.now.desk.plan.state c.args.pass (sym none))
    (ran_write g.S.Shelf.leaves _ c.take_event.result (g.S.Shelf.told c.args.shelf.now) (g.K.Sink.told c.args.out.now) (g.K.Sink.told c.take_event.new.out) c.take_event.ensures.ends c.take_event.ensures.calls)
