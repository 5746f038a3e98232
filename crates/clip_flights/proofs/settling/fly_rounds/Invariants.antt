use Rattle.clip_flights.proofs.LongFlights.{IsSettling}
use Rattle.clip_flights.proofs.settling.fly_rounds.Given as goal

abbrev pub invariant-flown : goal.invariant-flown
invariant-flown g l =
    IsSettling g.S.Shelf.leaves l.means.name.now l.fn.flight l.flight l.workers l.most l.counter (g.S.Shelf.told l.fn.shelf) (g.S.Shelf.told l.shelf) (g.K.Sink.told l.fn.out) (g.K.Sink.told l.out)
