use Rattle.std.proofs.Common.{◌≡◌, ◌≤◌, ◌++◌, map, vec_capacity}
use Rattle.plan_model.specs.Strips.{pieces}
use Rattle.book_plan.specs.Slots.{fresh_slot}
use Rattle.book_plan.proofs.levels.list.Given as goal

abbrev pub invariant-loop-piece : goal.invariant-loop-piece
invariant-loop-piece l =
    (goal.iterator-loop-piece).can_next l.piece-iterator ×
    (goal.iterator-loop-piece).is_finite l.piece-iterator ×
    (l.slots.items ++ map fresh_slot l.piece-iterator ≡ map fresh_slot (pieces l.fn.strip)) ×
    (1089 ≤ vec_capacity l.slots)
