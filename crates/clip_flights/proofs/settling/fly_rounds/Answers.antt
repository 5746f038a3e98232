use Rattle.std.proofs.Common.{sym, ◌∙◌}
use Rattle.std.proofs.lemmas.Result.{err_from_is_err_and}
use Rattle.clip_flights.proofs.LongFlights.{jobless, settling_done, settling_end, settling_halted, settling_more, settling_start}
use Rattle.clip_flights.proofs.settling.fly_rounds.Goals as goal

pub flown-init : goal.flown-init
flown-init g c =
    settling_start g.S.Shelf.leaves c.args.means.now.name.now c.args.flight.now c.args.workers c.args.most (g.S.Shelf.told c.args.shelf.now) (g.K.Sink.told c.args.out.now) c.requires.rest

pub fly_round-requires-clause-none : goal.fly_round-requires-clause-none
fly_round-requires-clause-none g c _ _ = jobless c.flown.flight.book c.flown.invariant.rest

pub flown-preserved : goal.flown-preserved
flown-preserved g c =
    settling_more g.S.Shelf.leaves c.args.means.now.name.now c.args.flight.now c.flown.flight c.args.workers c.args.most c.flown.counter
    (g.S.Shelf.told c.args.shelf.now) (g.S.Shelf.told c.flown.shelf) (g.K.Sink.told c.args.out.now) (g.K.Sink.told c.flown.out) c.flown.invariant
    c.fly_round.new.flight (g.S.Shelf.told c.fly_round.new.shelf) (g.K.Sink.told c.fly_round.new.out) c.flown-test.true (sym c.is_settled.ensures ∙ c.if-is_settled.false)
    c.laws_below.ensures c.requires.workers c.in_ok-fly_round.ensures.flew c.in_ok-fly_round.ensures.stays

pub returns-in_err-fly_round-clause-flew : goal.returns-in_err-fly_round-clause-flew
returns-in_err-fly_round-clause-flew g c =
    let p = err_from_is_err_and c.from_residual.result c.from_residual.ensures.1 in
    rw (p.1, p.2) (settling_halted g.S.Shelf.leaves c.args.means.now.name.now c.args.flight.now c.flown.flight c.args.workers c.args.most c.flown.counter
    (g.S.Shelf.told c.args.shelf.now) (g.S.Shelf.told c.flown.shelf) (g.K.Sink.told c.args.out.now) (g.K.Sink.told c.flown.out) c.flown.invariant
    c.fly_round.new.flight (g.S.Shelf.told c.fly_round.new.shelf) (g.K.Sink.told c.fly_round.new.out) c.flown-test.true (sym c.is_settled.ensures ∙ c.if-is_settled.false)
    _ c.in_err-fly_round.ensures.flew)

pub returns-then-is_settled-clause-flew : goal.returns-then-is_settled-clause-flew
returns-then-is_settled-clause-flew g c =
    settling_done g.S.Shelf.leaves c.args.means.now.name.now c.args.flight.now c.flown.flight c.args.workers c.args.most c.flown.counter
    (g.S.Shelf.told c.args.shelf.now) (g.S.Shelf.told c.flown.shelf) (g.K.Sink.told c.args.out.now) (g.K.Sink.told c.flown.out) c.flown.invariant
    c.flown-test.true (sym c.is_settled.ensures ∙ c.if-is_settled.true)

pub returns-clause-flew : goal.returns-clause-flew
returns-clause-flew g c =
    settling_end g.S.Shelf.leaves c.args.means.now.name.now c.args.flight.now c.flown.flight c.args.workers c.args.most c.flown.counter
    (g.S.Shelf.told c.args.shelf.now) (g.S.Shelf.told c.flown.shelf) (g.K.Sink.told c.args.out.now) (g.K.Sink.told c.flown.out) c.flown.invariant c.flown-test.false
