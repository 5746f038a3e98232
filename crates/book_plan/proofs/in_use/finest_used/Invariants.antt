use Rattle.std.proofs.Common.{◌≡◌, ◌-◌, filter}
use Rattle.std.specs.List.{range_with_len}
use Rattle.plan_model.specs.Strips.{first_of}
use Rattle.plan_model.specs.States.{is_seen}
use Rattle.book_plan.proofs.in_use.finest_used.Given as goal

abbrev pub invariant-loop-level : goal.invariant-loop-level
invariant-loop-level l =
    first_of (filter (is_seen l.k l.levels l.altitude) (range_with_len l.level (l.levels - l.level)))
    ≡ first_of (filter (is_seen l.k l.levels l.altitude) (range_with_len 0 l.levels))
