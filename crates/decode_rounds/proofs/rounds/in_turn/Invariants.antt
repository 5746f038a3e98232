use Rattle.std.specs.List.{AllZip}
use Rattle.decode_rounds.specs.Rounds.{IsDoneOf}
use Rattle.decode_rounds.proofs.rounds.in_turn.Given as goal

abbrev pub invariant-loop-task : goal.invariant-loop-task
invariant-loop-task g l = AllZip (IsDoneOf l.book) l.yielded l.all.items
