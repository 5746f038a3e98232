use Rattle.std.proofs.Common.{refl, sym, ◌∙◌}
use Rattle.plan_model.specs.Rounds.{frame_pass}
use Rattle.plan_model.specs.declared.events.Event.TheVariants.{Begin}
use Rattle.run_actions.specs.Runs.{leaves_nothing}
use Rattle.clip_rounds.specs.Parts.{place_of}
use Rattle.clip_rounds.proofs.OneEvent.{flew_told, same_place, told_goes}
use Rattle.clip_rounds.proofs.events.begin.Goals as goal

pub returns-clause-flew : goal.returns-clause-flew
returns-clause-flew g c = λ s name.
    let flight = c.args.flight.now in
    flew_told leaves_nothing flight.book.land.terrain name frame_pass Begin (place_of flight) _ c.told_of_begun-answer.result c.tell.result s (g.K.Sink.told c.args.out.now) (g.K.Sink.told c.tell.new.out) refl
    (c.told_of_begun-answer.ensures ∙ sym c.begin.ensures.does.plan.answered) c.tell.ensures.ends c.tell.ensures.calls c.tell.ensures.reason c.tell.ensures.faults_stay
    (same_place _ _ _ _ c.begin.ensures.does.plan.state refl)

pub returns-clause-goes : goal.returns-clause-goes
returns-clause-goes g c = told_goes frame_pass Begin _ c.args.flight.now.book c.begin.new.self c.begin.ensures.does
