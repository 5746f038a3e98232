use Rattle.std.proofs.Common.{refl, sym, ◌∙◌}
use Rattle.plan_model.specs.declared.events.Event.TheVariants.{Publish}
use Rattle.run_actions.specs.Runs.{leaves_nothing}
use Rattle.clip_rounds.specs.Parts.{place_of}
use Rattle.clip_rounds.proofs.OneEvent.{flew_told, same_place, told_does}
use Rattle.clip_rounds.proofs.events.publish.Goals as goal

pub returns-clause-flew : goal.returns-clause-flew
returns-clause-flew g c = λ s name.
    let flight = c.args.flight.now in
    flew_told leaves_nothing flight.book.land.terrain name 0 (Publish c.args.level) (place_of flight) _ c.told_of_published-answer.result c.tell.result s (g.K.Sink.told c.args.out.now) (g.K.Sink.told c.tell.new.out) refl
    (c.told_of_published-answer.ensures ∙ sym c.publish.ensures.does.plan.answered) c.tell.ensures.ends c.tell.ensures.calls c.tell.ensures.reason c.tell.ensures.faults_stay
    (same_place _ _ _ _ c.publish.ensures.does.plan.state refl)

pub returns-clause-does : goal.returns-clause-does
returns-clause-does g c = told_does 0 (Publish c.args.level) _ c.args.flight.now.book c.publish.new.self c.publish.ensures.does
