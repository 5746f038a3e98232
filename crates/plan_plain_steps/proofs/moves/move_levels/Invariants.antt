use Rattle.std.proofs.Common.{ℕ, length, slice_index_or}
use Rattle.plan_model.specs.States.{empty_level}
use Rattle.plan_model.specs.Steps.{moved_level}
use Rattle.plan_model.specs.Window.{window}
use Rattle.plan_plain_steps.specs.Moves.{stays_for}
use Rattle.plan_plain_steps.proofs.Moved.{IsMade}
use Rattle.plan_plain_steps.proofs.moves.move_levels.Given as goal

abbrev pub invariant-loop-l : goal.invariant-loop-l
invariant-loop-l l =
    IsMade (λ (i : ℕ). moved_level (stays_for l.fn.k (length l.initial.levels) l.fn.from l.fn.to i) (window l.fn.k i l.fn.to.x l.fn.to.y) (slice_index_or l.initial.levels i empty_level)) l.initial.levels l.levels l.l
