use Rattle.book_plan.specs.Moves.{moved_from}
use Rattle.book_plan.proofs.Moved.{IsMade}
use Rattle.book_plan.proofs.moves.move_levels.Given as goal

abbrev pub invariant-loop-l : goal.invariant-loop-l
invariant-loop-l l = IsMade (moved_from l.fn.k l.fn.from l.fn.to l.initial.levels) l.initial.levels l.levels l.l
