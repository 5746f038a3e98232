use Rattle.std.proofs.Common.{All}
use Rattle.decode_rounds.specs.Rounds.{IsTaskOf}
use Rattle.decode_rounds.proofs.tests.desk.Desk.of_books.Given as goal

abbrev pub invariant-loop : goal.invariant-loop
invariant-loop g l = All (IsTaskOf l.self.book) l.tasks.items
