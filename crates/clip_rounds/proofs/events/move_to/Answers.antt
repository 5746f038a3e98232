use mir.Val.{to_z, of_z}
use Rattle.std.specs.Int.{w32}
use Rattle.std.proofs.Common.{◌≡◌, refl, rules, sym}
use Rattle.plan_model.specs.declared.events.Event.TheVariants.{Move}
use Rattle.plan_model.specs.declared.events.Answer.TheVariants.{Moved}
use Rattle.run_actions.specs.Runs.{leaves_nothing}
use Rattle.clip_rounds.specs.Parts.{place_of}
use Rattle.clip_rounds.proofs.OneEvent.{flew_told, same_place, told_goes}
use Rattle.clip_rounds.proofs.events.move_to.Goals as goal

pub returns-clause-flew : goal.returns-clause-flew
returns-clause-flew g c = λ s name.
    let flight = c.args.flight.now in
    let x : to_z w32 (of_z w32 c.args.x) ≡ c.args.x = search rules in
    let y : to_z w32 (of_z w32 c.args.y) ≡ c.args.y = search rules in
    let does = simp (x, y) at c.move_to.ensures.does in
    let ends = simp (x, y) at c.tell.ensures.ends in
    flew_told leaves_nothing flight.book.land.terrain name 0 (Move c.args.x c.args.y c.args.a) (place_of flight) _ Moved c.tell.result s (g.K.Sink.told c.args.out.now) (g.K.Sink.told c.tell.new.out) refl
    (sym does.plan.answered) ends c.tell.ensures.calls c.tell.ensures.reason c.tell.ensures.faults_stay
    (same_place _ _ _ _ does.plan.state refl)

pub returns-clause-goes : goal.returns-clause-goes
returns-clause-goes g c =
    let x : to_z w32 (of_z w32 c.args.x) ≡ c.args.x = search rules in
    let y : to_z w32 (of_z w32 c.args.y) ≡ c.args.y = search rules in
    let does = simp (x, y) at c.move_to.ensures.does in
    told_goes 0 (Move c.args.x c.args.y c.args.a) Moved c.args.flight.now.book c.move_to.new.self does
