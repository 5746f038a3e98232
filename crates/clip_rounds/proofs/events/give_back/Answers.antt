use Rattle.std.proofs.Common.{refl, ap, sym, ◌∙◌}
use Rattle.plan_model.specs.declared.events.Event.TheVariants.{Finish}
use Rattle.run_actions.specs.Runs.{leaves_nothing}
use Rattle.clip_rounds.specs.Parts.{one, place_of}
use Rattle.clip_rounds.specs.Tallies.{with_kept}
use Rattle.clip_rounds.proofs.OneEvent.{flew_told, same_place, told_does}
use Rattle.clip_rounds.proofs.Flown.{flew_wanting}
use Rattle.clip_rounds.proofs.events.give_back.Goals as goal

pub returns-in-Some-clause-flew : goal.returns-in-Some-clause-flew
returns-in-Some-clause-flew g c = λ s name.
    let flight = c.args.flight.now in
    let said = c.told_of_given-answer.ensures ∙ sym c.give_back.ensures.does.plan.answered in
    flew_told leaves_nothing flight.book.land.terrain name c.args.pass Finish (place_of flight) _ c.told_of_given-answer.result c.tell.result s (g.K.Sink.told c.args.out.now) (g.K.Sink.told c.tell.new.out) refl
    said c.tell.ensures.ends c.tell.ensures.calls c.tell.ensures.reason c.tell.ensures.faults_stay
    (same_place _ _ _ _ c.give_back.ensures.does.plan.state (c.in-Some.ensures ∙ ap (with_kept flight.tally) said))

pub returns-in-None-clause-flew : goal.returns-in-None-clause-flew
returns-in-None-clause-flew g c = λ s name. flew_wanting leaves_nothing c.args.flight.now.book.land.terrain name (one c.args.pass Finish) (place_of c.args.flight.now) _ s (g.K.Sink.told c.args.out.now)

pub returns-in-Some-clause-does : goal.returns-in-Some-clause-does
returns-in-Some-clause-does g c = told_does c.args.pass Finish _ c.args.flight.now.book c.give_back.new.self c.give_back.ensures.does

pub returns-in-None-clause-does : goal.returns-in-None-clause-does
returns-in-None-clause-does g c = told_does c.args.pass Finish _ c.args.flight.now.book c.give_back.new.self c.give_back.ensures.does
