use Rattle.std.proofs.Common.{◌≡◌, ℕ, ◌<◌, false, slice_index_or}
use Rattle.book_plan.specs.declared.slots.Slot.{Slot}
use Rattle.book_plan.specs.Desks.{state_of}
use Rattle.book_plan.specs.Offered.{is_claimable_slot}
use Rattle.book_plan.proofs.desk.PlanDesk.first_claimable.Given as goal

abbrev pub invariant-loop-n : goal.invariant-loop-n
invariant-loop-n l =
    (m : ℕ) (d : Slot) → m < l.n → is_claimable_slot (state_of l.fn.self) l.fn.level (slice_index_or l.fn.slots m d) ≡ false
