-- Which levels a move of the viewer leaves as they are.
use Rattle.std.specs.Prelude.{ℕ, Bool, ◌&&◌, nat_le}
use Rattle.std.specs.Bool.{beq}
use Rattle.plan_model.specs.Window.{window}
use Rattle.plan_model.specs.States.{finest_used, same_region}
use Rattle.plan_plain_steps.specs.declared.moves.Viewer.{Viewer}

-- a level of so many stays: its window is the same for both viewers, and it is in use for both or for neither
abbrev pub stays_for : ℕ → ℕ → Viewer → Viewer → ℕ → Bool
stays_for k levels from to level =
    same_region (window k level from.x from.y) (window k level to.x to.y)
    && beq (nat_le (finest_used k levels from.a) level) (nat_le (finest_used k levels to.a) level)
