use mir.Val.{to_z, of_z}
use Rattle.std.specs.Int.{w32}
use Rattle.std.proofs.Common.{◌≡◌, rules, sym, subst}
use Rattle.std.specs.Prelude.{OnOk}
use Rattle.plan_model.specs.Rounds.{fly_line}
use Rattle.plan_model.specs.declared.events.FlyLine.{FlyLine}
use Rattle.plan_model.specs.declared.events.Event.TheVariants.{Move}
use Rattle.clip_desk.specs.Desks.{Stays}
use Rattle.clip_rounds.specs.Parts.{Flew, place_of}
use Rattle.clip_flights.specs.Lines.{GoesOn}
use Rattle.clip_rounds.proofs.Flown.{always, flew_more, on_done}
use Rattle.clip_flights.proofs.LongFlights.{moved_goes_on, stays_goes_on}
use Rattle.clip_flights.proofs.flying.take_line.Goals as goal

pub returns-in-Move-clause-flew : goal.returns-in-Move-clause-flew
returns-in-Move-clause-flew g c =
    let x : to_z w32 (of_z w32 c.in-Move.x) ≡ c.in-Move.x = search rules in
    let y : to_z w32 (of_z w32 c.in-Move.y) ≡ c.in-Move.y = search rules in
    let flew = simp (x, y) at (c.move_to.ensures.flew (g.S.Shelf.told c.args.shelf.now) c.args.means.now.name.now) in
    subst (λ (line : FlyLine). Flew g.S.Shelf.leaves c.args.flight.now.book.land.terrain c.args.means.now.name.now (λ run. fly_line c.args.workers run line) c.move_to.result (place_of c.args.flight.now) (place_of c.move_to.new.flight)
    (g.S.Shelf.told c.args.shelf.now) (g.S.Shelf.told c.args.shelf.now) (g.K.Sink.told c.args.out.now) (g.K.Sink.told c.move_to.new.out)) (sym c.in-Move.is) (flew_more g.S.Shelf.leaves flew)

pub returns-in-Move-clause-goes_on : goal.returns-in-Move-clause-goes_on
returns-in-Move-clause-goes_on g c =
    let x : to_z w32 (of_z w32 c.in-Move.x) ≡ c.in-Move.x = search rules in
    let y : to_z w32 (of_z w32 c.in-Move.y) ≡ c.in-Move.y = search rules in
    let goes = simp (x, y) at c.move_to.ensures.goes in
    always c.move_to.result (moved_goes_on c.in-Move.x c.in-Move.y c.in-Move.a c.args.flight.now.book c.move_to.new.flight.book goes)

pub returns-in-Settle-clause-goes_on : goal.returns-in-Settle-clause-goes_on
returns-in-Settle-clause-goes_on g c =
    on_done c.settle.result (Stays c.args.flight.now.book c.settle.new.flight.book) (GoesOn c.args.flight.now.book c.settle.new.flight.book) (stays_goes_on c.args.flight.now.book c.settle.new.flight.book) c.settle.ensures.stays
