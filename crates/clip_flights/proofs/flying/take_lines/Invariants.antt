use Rattle.clip_flights.proofs.LongFlights.{IsFlying}
use Rattle.clip_flights.proofs.flying.take_lines.Given as goal

abbrev pub invariant-loop-line : goal.invariant-loop-line
invariant-loop-line g l =
    IsFlying g.S.Shelf.leaves l.means.name.now l.fn.flight l.flight l.workers l.lines l.line-index (g.S.Shelf.told l.fn.shelf) (g.S.Shelf.told l.shelf) (g.K.Sink.told l.fn.out) (g.K.Sink.told l.out)
