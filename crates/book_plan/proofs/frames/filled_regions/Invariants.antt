use Rattle.std.proofs.Common.{◌≡◌, ℕ, ◌<◌, length, slice_index_or}
use Rattle.clip_regions.specs.Regions.{empty_region}
use Rattle.book_plan.specs.Slots.{empty_shelf}
use Rattle.book_plan.proofs.frames.filled_regions.Given as goal

abbrev pub invariant-loop-l : goal.invariant-loop-l
invariant-loop-l l =
    (length l.filled ≡ 12) × ((i : ℕ) → i < l.l → slice_index_or l.filled i empty_region ≡ (slice_index_or l.fn.levels i empty_shelf).filled)
