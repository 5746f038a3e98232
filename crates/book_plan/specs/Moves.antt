-- Which levels a move of the viewer leaves as they are, and what it makes of the others.
use Rattle.std.specs.Prelude.{◌≡◌, ℕ, ◌+◌, ◌≤◌, IsTrue, Bool, ◌&&◌, nat_le, map, length, slice_index_or, List, Option, Some, None, if◌then◌else◌}
use Rattle.std.specs.Bool.{beq}
use Rattle.std.specs.List.{range_with_len}
use Rattle.clip_regions.specs.declared.region.Region.{Region}
use Rattle.clip_regions.specs.Regions.{meet, holds}
use Rattle.plan_model.specs.Window.{window}
use Rattle.plan_model.specs.Strips.{current_strip, pieces}
use Rattle.plan_model.specs.States.{finest_used, same_region}
use Rattle.plan_model.specs.Claims.{strip_pieces}
use Rattle.plan_model.specs.Laws.{IsFilledIn}
use Rattle.strip_planner.specs.Planned.{IsPlanned}
use Rattle.book_plan.specs.Slots.{Shelf, empty_shelf, fresh_slot}
use Rattle.book_plan.specs.Desks.{Desk}
use Rattle.book_plan.specs.declared.viewers.Viewer.{Viewer}

-- a level of so many is in use for a viewer
abbrev pub used_for : ℕ → ℕ → Viewer → ℕ → Bool
used_for k levels viewer level = nat_le (finest_used k levels viewer.a) level

-- a level of so many stays: its window is the same for both viewers, and it is in use for both or for neither
unfoldable pub stays_for : ℕ → ℕ → Viewer → Viewer → ℕ → Bool
stays_for k levels from to level =
    same_region (window k level from.x from.y) (window k level to.x to.y)
    && beq (used_for k levels from level) (used_for k levels to level)

-- the current strip of a filled region in its window, where the level is in use
unfoldable pub strip_where : Bool → Region → Region → Option Region
strip_where used filled window = if used then current_strip filled window else None

-- what lies in the window can be planned, has at most as many pieces as there are slots, and has the window's strips
pub record IsRoomy (window : Region) : Type 0 where
  pub planned : (r : Region) → IsTrue (holds window r) → IsPlanned r
  pub few : (r : Region) → IsTrue (holds window r) → length (pieces r) ≤ 1089
  pub strips : (filled strip : Region) → IsFilledIn filled window → current_strip filled window ≡ Some strip →
      IsTrue (holds window strip)

-- a level with this filled region and plan number, of which no piece is finished
abbrev pub filled_shelf : Bool → Region → ℕ → Region → Shelf
filled_shelf used filled plan window = record {
  filled = filled;
  plan = plan;
  slots = map fresh_slot (strip_pieces (strip_where used filled window));
}

-- a level after a move, by whether it stays, whether it is in use then, and its window then
unfoldable pub moved_shelf : Bool → Bool → Region → Shelf → Shelf
moved_shelf stays used window old =
    if stays then old else filled_shelf used (meet old.filled window) (old.plan + 1) window

-- one of some levels after a move
abbrev pub moved_from : ℕ → Viewer → Viewer → List Shelf → ℕ → Shelf
moved_from k from to levels level =
    moved_shelf (stays_for k (length levels) from to level) (used_for k (length levels) to level)
    (window k level to.x to.y) (slice_index_or levels level empty_shelf)

-- the viewer of a desk
abbrev pub viewer_of : Desk → Viewer
viewer_of d = record { x = d.x; y = d.y; a = d.altitude }

-- a desk after a move to another viewer
abbrev pub moved_desk : Desk → Viewer → Desk
moved_desk d to = record d {
  x = to.x;
  y = to.y;
  altitude = to.a;
  levels = map (moved_from d.k (viewer_of d) to d.levels) (range_with_len 0 (length d.levels));
}
