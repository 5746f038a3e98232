-- How a frame of a pass is read, level by level.
use Rattle.std.specs.Prelude.{◌≡◌, ℕ, ◌<◌, ◌≤◌, length, Some}
use Rattle.clip_regions.specs.Regions.{area}
use Rattle.terrain_model.specs.Terrain.{Terrain}
use Rattle.plan_model.specs.States.{OpenFrame, frame_of}
use Rattle.mesh_model.specs.Height.{active_at}
use Rattle.decode_workers.specs.Copies.{CopiesView, copy_of, heights_in}
use Rattle.clip_gate.specs.Passes.{PassView, part_of}

-- a pass has this frame
abbrev pub HasOpen : PassView → OpenFrame → Type 0
HasOpen pass frame = frame_of (part_of pass) ≡ Some frame

-- the n finest levels are copied, and there is room for the others
pub record AreRead (terrain : Terrain) (n : ℕ) (copies : CopiesView) : Type 0 where
  pub many : length copies.levels ≡ length copies.actives
  pub right : (level : ℕ) → level < n →
      (copy_of copies level).heights ≡ heights_in terrain level (active_at copies.actives level)
  pub room : (level : ℕ) → n ≤ level → level < length copies.actives →
      area (active_at copies.actives level) ≤ (copy_of copies level).room
