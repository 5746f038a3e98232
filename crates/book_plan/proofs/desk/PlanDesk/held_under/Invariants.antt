use Rattle.std.proofs.Common.{◌≡◌, ◌-◌, flat_map, reverse, length}
use Rattle.std.specs.List.{range_with_len}
use Rattle.plan_model.specs.Strips.{first_of}
use Rattle.book_plan.specs.Desks.{state_of}
use Rattle.book_plan.specs.Found.{answers_under}
use Rattle.book_plan.proofs.desk.PlanDesk.held_under.Given as goal

abbrev pub invariant-loop-level : goal.invariant-loop-level
invariant-loop-level l =
    l.first ≡ first_of (flat_map (answers_under (state_of l.fn.self) l.fn.actives) (reverse (range_with_len l.level (length (state_of l.fn.self).levels - l.level))))
