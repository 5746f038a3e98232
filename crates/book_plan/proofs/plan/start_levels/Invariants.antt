use Rattle.std.proofs.Common.{◌≡◌, map}
use Rattle.std.specs.List.{range_with_len}
use Rattle.book_plan.specs.Starts.{started}
use Rattle.book_plan.proofs.plan.start_levels.Given as goal

abbrev pub invariant-loop-l : goal.invariant-loop-l
invariant-loop-l l = l.out.items ≡ map (started l.fn.k) (range_with_len 0 l.l)
