use Rattle.std.proofs.Common.{◌≡◌, ℕ, ◌<◌, ◌≤◌, false, slice_index_or}
use Rattle.plan_model.specs.Blocks.{same_block}
use Rattle.book_plan.specs.declared.slots.Slot.{Slot}
use Rattle.book_plan.proofs.levels.find.Given as goal

abbrev pub invariant-loop-n : goal.invariant-loop-n
invariant-loop-n l = (m : ℕ) (d : Slot) → l.fn.from ≤ m → m < l.n → same_block (slice_index_or l.fn.slots m d).piece l.fn.piece ≡ false
