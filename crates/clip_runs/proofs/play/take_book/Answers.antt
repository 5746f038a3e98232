use Rattle.std.proofs.Common.{sym, subst, ◌∙◌}
use Rattle.std.specs.Prelude.{OnOk}
use Rattle.plan_model.specs.declared.events.Event.{Event}
use Rattle.run_actions.specs.Runs.{Ran}
use Rattle.run_actions.proofs.Ends.{ran_write}
use Rattle.clip_desk.specs.Desks.{Goes}
use Rattle.clip_runs.proofs.Steps.{ends_event, is_the_end, tells_event}
use Rattle.clip_runs.proofs.play.take_book.Goals as goal

pub returns-then-is_end-clause-goes : goal.returns-then-is_end-clause-goes
returns-then-is_end-clause-goes g c =
    subst (λ (e : Event). OnOk c.end_frame.result (Goes c.args.pass e c.args.stage.now.desk c.end_frame.new.stage.desk)) (sym (is_the_end c.args.event (sym c.is_end.ensures ∙ c.if-is_end.true))) c.end_frame.ensures.goes

pub returns-then-is_end-clause-ran : goal.returns-then-is_end-clause-ran
returns-then-is_end-clause-ran g c =
    subst (λ actions. Ran g.S.Shelf.leaves 0 actions c.end_frame.result (g.S.Shelf.told c.args.shelf.now) (g.S.Shelf.told c.end_frame.new.shelf) (g.K.Sink.told c.args.out.now) (g.K.Sink.told c.end_frame.new.out))
    (sym (ends_event c.args.stage.now.desk.land.terrain c.args.means.now.name.now c.args.stage.now.desk.plan.state c.args.pass c.args.event (sym c.is_end.ensures ∙ c.if-is_end.true))) c.end_frame.ensures.ran

pub returns-else-is_end-clause-ran : goal.returns-else-is_end-clause-ran
returns-else-is_end-clause-ran g c =
    subst (λ actions. Ran g.S.Shelf.leaves 0 actions c.take_event.result (g.S.Shelf.told c.args.shelf.now) (g.S.Shelf.told c.args.shelf.now) (g.K.Sink.told c.args.out.now) (g.K.Sink.told c.take_event.new.out))
    (sym (tells_event c.args.stage.now.desk.land.terrain c.args.means.now.name.now c.args.stage.now.desk.plan.state c.args.pass c.args.event (sym c.is_end.ensures ∙ c.if-is_end.false)))
    (ran_write g.S.Shelf.leaves _ c.take_event.result (g.S.Shelf.told c.args.shelf.now) (g.K.Sink.told c.args.out.now) (g.K.Sink.told c.take_event.new.out) c.take_event.ensures.ends c.take_event.ensures.calls)
