use Rattle.std.proofs.Common.{◌≡◌}
use Rattle.decode_rounds.proofs.tests.desk.publish_all.Given as goal

abbrev pub invariant-loop-level : goal.invariant-loop-level
invariant-loop-level l = l.book.land ≡ l.fn.book.land
