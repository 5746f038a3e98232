-- A desk at the start.
use Rattle.std.specs.Prelude.{◌≡◌, ℕ, true, pos}
use Rattle.clip_regions.specs.Regions.{empty_region}
use Rattle.plan_model.specs.Window.{window}
use Rattle.plan_model.specs.States.{start_state}
use Rattle.book_plan.specs.Slots.{Shelf}
use Rattle.book_plan.specs.Desks.{Desk, state_of, HaveSlots}
use Rattle.book_plan.specs.Moves.{filled_shelf}

-- a level of which nothing is filled, for a viewer at (0, 0)
abbrev pub started : ℕ → ℕ → Shelf
started k level = filled_shelf true empty_region 0 (window k level (pos 0) (pos 0))

-- the desk stands for the state at the start
pub record HasStarted (k levels : ℕ) (d : Desk) : Type 0 where
  pub state : state_of d ≡ start_state k levels
  pub slots : HaveSlots d
