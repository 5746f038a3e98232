use Rattle.std.proofs.Common.{refl, subst}
use Rattle.plan_model.specs.Rounds.{ending, frame_pass}
use Rattle.plan_model.specs.declared.events.Event.TheVariants.{End}
use Rattle.clip_desk.specs.Desks.{Goes, Stays}
use Rattle.clip_rounds.specs.Parts.{one, place_of}
use Rattle.clip_rounds.specs.Rounds.{IsDrawn}
use Rattle.clip_rounds.proofs.Flown.{flew_nothing, flew_same, on_done}
use Rattle.clip_rounds.proofs.RoundSteps.{goes_stays, no_ending, the_ending}
use Rattle.clip_rounds.proofs.rounds.end_frame.Goals as goal

pub returns-in-Some-clause-flew : goal.returns-in-Some-clause-flew
returns-in-Some-clause-flew g c =
    let old = c.args.flight.now in
    let drawn = subst (IsDrawn old.book) c.in-Some.is c.requires.mesh in
    flew_same g.S.Shelf.leaves old.book.land.terrain c.args.means.now.name.now (one frame_pass End) ending c.end.result (place_of old) (place_of c.end.new.flight) (g.S.Shelf.told c.args.shelf.now) (g.S.Shelf.told c.end.new.shelf) (g.K.Sink.told c.args.out.now) (g.K.Sink.told c.end.new.out)
    (the_ending old.book.plan.state drawn.0) c.end.ensures.flew

pub returns-in-None-clause-flew : goal.returns-in-None-clause-flew
returns-in-None-clause-flew g c =
    let old = c.args.flight.now in
    flew_nothing g.S.Shelf.leaves old.book.land.terrain c.args.means.now.name.now ending tt (place_of old) (g.S.Shelf.told c.args.shelf.now) (g.K.Sink.told c.args.out.now)
    (no_ending old.book.plan.state (subst (IsDrawn old.book) c.in-None.is c.requires.mesh))

pub returns-in-Some-clause-stays : goal.returns-in-Some-clause-stays
returns-in-Some-clause-stays g c =
    on_done c.end.result (Goes frame_pass End c.args.flight.now.book c.end.new.flight.book) (Stays c.args.flight.now.book c.end.new.flight.book)
    (goes_stays c.steps_go_on.ensures frame_pass End c.args.flight.now.book c.end.new.flight.book refl refl) c.end.ensures.goes
