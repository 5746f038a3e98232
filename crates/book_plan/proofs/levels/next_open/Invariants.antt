use Rattle.std.proofs.Common.{◌≡◌, ℕ, ◌<◌, true, slice_index_or}
use Rattle.book_plan.specs.declared.slots.Slot.{Slot}
use Rattle.book_plan.proofs.levels.next_open.Given as goal

abbrev pub invariant-loop-n : goal.invariant-loop-n
invariant-loop-n l = (m : ℕ) (d : Slot) → m < l.n → (slice_index_or l.fn.slots m d).finished ≡ true
