use Rattle.std.proofs.Common.{◌≡◌, length}
use Rattle.decode_rounds.specs.Homes.{AreJobTasks}
use Rattle.decode_rounds.proofs.tests.desk.claimed.Given as goal

abbrev pub invariant-loop-pass : goal.invariant-loop-pass
invariant-loop-pass l = (l.book.land ≡ l.fn.book.land) × (length l.tasks.items ≡ l.pass) × AreJobTasks l.book 0 l.tasks.items
