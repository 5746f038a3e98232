use Rattle.std.proofs.Common.{◌≡◌, All}
use Rattle.decode_rounds.specs.Rounds.{IsTaskOf}
use Rattle.decode_rounds.proofs.tests.desk.more_jobs.Given as goal

abbrev pub invariant-loop-pass : goal.invariant-loop-pass
invariant-loop-pass l = (l.other.land ≡ l.book.land) × All (IsTaskOf l.book) l.tasks.items
