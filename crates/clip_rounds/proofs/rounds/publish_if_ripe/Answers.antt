use Rattle.std.proofs.Common.{refl, sym, ◌∙◌}
use Rattle.plan_model.specs.Rounds.{publish_of}
use Rattle.plan_model.specs.Steps.{step}
use Rattle.plan_model.specs.declared.events.Event.TheVariants.{Publish}
use Rattle.clip_desk.proofs.Stays.{event_stays}
use Rattle.run_actions.specs.Runs.{leaves_nothing}
use Rattle.clip_rounds.specs.Parts.{one, place_of}
use Rattle.clip_rounds.proofs.Flown.{flew_nothing, flew_same}
use Rattle.clip_rounds.proofs.RoundSteps.{no_publication, the_publication}
use Rattle.clip_rounds.proofs.rounds.publish_if_ripe.Goals as goal

pub returns-then-is_ripe-clause-flew : goal.returns-then-is_ripe-clause-flew
returns-then-is_ripe-clause-flew g c = λ s name.
    let old = c.args.flight.now in
    flew_same leaves_nothing old.book.land.terrain name (one 0 (Publish c.args.level)) (λ run. publish_of run c.args.level) c.publish.result (place_of old) (place_of c.publish.new.flight) s s (g.K.Sink.told c.args.out.now) (g.K.Sink.told c.publish.new.out)
    (the_publication old.book.plan.state c.args.level (sym c.is_ripe.ensures ∙ c.if-is_ripe.true)) (c.publish.ensures.flew s name)

pub returns-else-is_ripe-clause-flew : goal.returns-else-is_ripe-clause-flew
returns-else-is_ripe-clause-flew g c = λ s name.
    let old = c.args.flight.now in
    flew_nothing leaves_nothing old.book.land.terrain name (λ run. publish_of run c.args.level) tt (place_of old) s (g.K.Sink.told c.args.out.now)
    (no_publication old.book.plan.state c.args.level (sym c.is_ripe.ensures ∙ c.if-is_ripe.false))

pub returns-then-is_ripe-clause-stays : goal.returns-then-is_ripe-clause-stays
returns-then-is_ripe-clause-stays g c =
    event_stays c.steps_go_on.ensures 0 (Publish c.args.level) (step c.args.flight.now.book.plan.state 0 (Publish c.args.level)).answer c.args.flight.now.book c.publish.new.flight.book refl refl
    (record { plan = c.publish.ensures.does.plan; land = c.publish.ensures.does.land })
