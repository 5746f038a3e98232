-- What a desk has, the state of the plan that it stands for, and what is true of both.
use Rattle.std.specs.Prelude.{◌≡◌, ℕ, ◌<◌, ℤ, List, map, length, slice_index_or}
use Rattle.plan_model.specs.Limits.{IsSize, IsLevelCount, IsViewer}
use Rattle.plan_model.specs.States.{State, Pass}
use Rattle.plan_model.specs.Claims.{pieces_at}
use Rattle.plan_model.specs.Sound.{IsReady}
use Rattle.book_plan.specs.Slots.{Shelf, empty_shelf, all_pieces, level_of}

-- K, the viewer and its altitude, the levels, the count of frames begun, and the passes
pub record Desk : Type 0 where
  pub k : ℕ
  pub x : ℤ
  pub y : ℤ
  pub altitude : ℕ
  pub levels : List Shelf
  pub begun : ℕ
  pub passes : List Pass

-- the state of the plan
abbrev pub state_of : Desk → State
state_of d = record {
  k = d.k;
  x = d.x;
  y = d.y;
  altitude = d.altitude;
  levels = map level_of d.levels;
  begun = d.begun;
  passes = d.passes;
}

-- one of the levels
abbrev pub shelf_at : Desk → ℕ → Shelf
shelf_at d level = slice_index_or d.levels level empty_shelf

-- the slots of each level have the pieces of its current strip
abbrev pub HaveSlots : Desk → Type 0
HaveSlots d =
    (level : ℕ) → level < length d.levels → all_pieces (shelf_at d level).slots ≡ pieces_at (state_of d) level

-- the state is sound, and the slots of each level are those of its current strip
pub record IsStanding (d : Desk) : Type 0 where
  pub size : IsSize d.k
  pub many : IsLevelCount (length d.levels)
  pub passes : length d.passes ≡ 16
  pub viewer : IsViewer d.x d.y d.altitude
  pub sound : IsReady (state_of d)
  pub slots : HaveSlots d
