use Rattle.std.proofs.Common.{◌≤◌, length, filter, take, arith}
use Rattle.book_plan.specs.Slots.{is_open}
use Rattle.book_plan.proofs.Lists.{kept_few, taken_few}
use Rattle.book_plan.proofs.levels.count_open.Goals as goal

pub overflow_add-count : goal.overflow_add-count
overflow_add-count c =
    let kept : length (filter is_open (take c.loop-slot.slot-index c.args.slots.now)) ≤ length (take c.loop-slot.slot-index c.args.slots.now) = kept_few is_open (take c.loop-slot.slot-index c.args.slots.now) in
    let taken : length (take c.loop-slot.slot-index c.args.slots.now) ≤ length c.args.slots.now = taken_few c.loop-slot.slot-index c.args.slots.now in
    omega (arith, kept, taken, c.loop-slot.invariant, c.requires)
