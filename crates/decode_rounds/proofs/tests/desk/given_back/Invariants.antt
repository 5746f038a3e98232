use Rattle.std.proofs.Common.{◌≡◌}
use Rattle.std.specs.Vec.Iter.{into_iter_items}
use Rattle.decode_rounds.specs.Homes.{AllGoBack}
use Rattle.decode_rounds.proofs.tests.desk.given_back.Given as goal

abbrev pub invariant-loop-done : goal.invariant-loop-done
invariant-loop-done g l = (l.book.land ≡ l.fn.book.land) × AllGoBack l.book l.pass (into_iter_items l.done-iterator)
