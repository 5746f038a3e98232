use Rattle.std.proofs.Common.{◌≡◌, length, filter, take}
use Rattle.book_plan.specs.Slots.{is_open}
use Rattle.book_plan.proofs.levels.count_open.Given as goal

abbrev pub invariant-loop-slot : goal.invariant-loop-slot
invariant-loop-slot l = l.count ≡ length (filter is_open (take l.slot-index l.slots))
