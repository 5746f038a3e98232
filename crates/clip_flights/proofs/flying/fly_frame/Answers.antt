use Rattle.std.proofs.Common.{◌≡◌, ℕ, length, Ok, refl, ap, ◌∙◌}
use Rattle.std.proofs.lemmas.Result.{err_from_is_err_and}
use Rattle.plan_model.specs.Rounds.{fly_line, frame_pass, round}
use Rattle.plan_model.specs.declared.events.Event.TheVariants.{Begin}
use Rattle.plan_model.specs.declared.events.FlyLine.TheVariants.{Frame}
use Rattle.clip_desk.specs.Desks.{Stays}
use Rattle.clip_rounds.specs.Parts.{one, place_of}
use Rattle.clip_flights.specs.Lines.{GoesOn}
use Rattle.clip_rounds.proofs.Flown.{flew_halted, flew_more, flew_over, flew_then, on_done}
use Rattle.clip_rounds.proofs.Parts.{one_part, round_part}
use Rattle.clip_flights.proofs.LongFlights.{begun_goes_on, begun_jobless, begun_many}
use Rattle.clip_flights.proofs.flying.fly_frame.Goals as goal

pub fly_round-requires-clause-none : goal.fly_round-requires-clause-none
fly_round-requires-clause-none g c _ _ = begun_jobless c.others_keep_parts.ensures c.args.flight.now.book c.begin.new.flight.book c.requires.rest c.begin.ensures.goes

pub fly_round-requires-clause-many : goal.fly_round-requires-clause-many
fly_round-requires-clause-many g c _ _ = begun_many c.steps_go_on.ensures c.args.flight.now.book c.begin.new.flight.book c.requires.rest c.begin.ensures.goes

pub returns-clause-flew : goal.returns-clause-flew
returns-clause-flew g c =
    let name = c.args.means.now.name.now in
    let old = c.args.flight.now in
    let begun = c.begin.new.flight in
    let last = c.fly_round.new.flight in
    let s = g.S.Shelf.told c.args.shelf.now in
    let s1 = g.S.Shelf.told c.fly_round.new.shelf in
    let k1 = g.K.Sink.told c.begin.new.out in
    let k2 = g.K.Sink.told c.fly_round.new.out in
    flew_then g.S.Shelf.leaves old.book.land.terrain name (one frame_pass Begin) (round c.args.workers) (λ run. fly_line c.args.workers run Frame) (one_part frame_pass Begin) (round_part c.args.workers) (place_of old) refl
    tt c.fly_round.result (place_of begun) (place_of last) s s s1 (g.K.Sink.told c.args.out.now) k1 k2 (flew_more g.S.Shelf.leaves (c.in_ok-begin.ensures.flew s name))
    (flew_over g.S.Shelf.leaves begun.book.land old.book.land name (round c.args.workers) c.fly_round.result (place_of begun) (place_of last) s s1 k1 k2 c.begin.ensures.goes.land c.fly_round.ensures.flew)

pub returns-in_err-begin-clause-flew : goal.returns-in_err-begin-clause-flew
returns-in_err-begin-clause-flew g c =
    let name = c.args.means.now.name.now in
    let old = c.args.flight.now in
    let s = g.S.Shelf.told c.args.shelf.now in
    let p = err_from_is_err_and c.from_residual.result c.from_residual.ensures.1 in
    rw (p.1, p.2) (flew_halted g.S.Shelf.leaves old.book.land.terrain name (one frame_pass Begin) (round c.args.workers) (λ run. fly_line c.args.workers run Frame) (one_part frame_pass Begin) (round_part c.args.workers) (place_of old) refl
    _ (place_of c.begin.new.flight) (place_of c.begin.new.flight) s s (g.K.Sink.told c.args.out.now) (g.K.Sink.told c.begin.new.out) (flew_more g.S.Shelf.leaves (c.in_err-begin.ensures.flew s name)))

pub returns-clause-goes_on : goal.returns-clause-goes_on
returns-clause-goes_on g c =
    on_done c.fly_round.result (Stays c.begin.new.flight.book c.fly_round.new.flight.book) (GoesOn c.args.flight.now.book c.fly_round.new.flight.book)
    (begun_goes_on c.args.flight.now.book c.begin.new.flight.book c.fly_round.new.flight.book c.begin.ensures.goes) c.fly_round.ensures.stays
