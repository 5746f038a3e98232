-- How a frame of a pass is read, made and ended.
use Rattle.std.specs.Prelude.{◌≡◌, ℕ, ◌<◌, ◌≤◌, Bool, List, [], ◌∷◌, ◌++◌, length, map, Some}
use Rattle.clip_regions.specs.Regions.{area}
use Rattle.terrain_model.specs.Terrain.{Terrain}
use Rattle.plan_model.specs.States.{OpenFrame, frame_of}
use Rattle.plan_model.specs.declared.events.Event.TheVariants.{End}
use Rattle.plan_model.specs.declared.events.Answer.TheVariants.{Closed}
use Rattle.plan_model.specs.declared.events.Work.TheVariants.{Free}
use Rattle.mesh_model.specs.Height.{active_at}
use Rattle.decode_workers.specs.Copies.{CopiesView, copy_of, heights_in}
use Rattle.clip_gate.specs.Passes.{PassView, part_of}
use Rattle.clip_gate.specs.Calls.{IsSamePass}
use Rattle.swarm_laws.specs.Shares.{Share}
use Rattle.swarm_laws.specs.Closings.{Closing}
use Rattle.swarm_passes.specs.Frames.{FrameView, shown}
use Rattle.swarm_passes.specs.Going.{own_of, closed_of, Goes}

-- a pass has this frame
abbrev pub HasOpen : PassView → OpenFrame → Type 0
HasOpen pass frame = frame_of (part_of pass) ≡ Some frame

-- a pass has made no event
pub record Waits (old new : PassView) : Type 0 where
  pub same : IsSamePass old new
  pub part : part_of new ≡ part_of old
  pub own : own_of new ≡ own_of old
  pub closes : closed_of new ≡ closed_of old

-- the n finest levels are copied, and there is room for the others
pub record AreRead (terrain : Terrain) (n : ℕ) (copies : CopiesView) : Type 0 where
  pub many : length copies.levels ≡ length copies.actives
  pub right : (level : ℕ) → level < n →
      (copy_of copies level).heights ≡ heights_in terrain level (active_at copies.actives level)
  pub room : (level : ℕ) → n ≤ level → level < length copies.actives →
      area (active_at copies.actives level) ≤ (copy_of copies level).room

-- a pass that had a frame has ended it, and what is printed of it is the last of these frames
pub record HasEnded (frame : OpenFrame) (old new : PassView) : Type 0 where
  pub same : IsSamePass old new
  pub free : part_of new ≡ Free
  pub own : own_of new ≡ own_of old ++ record { pass = old.number; event = End; answer = Closed frame.number } ∷ []
  pub closes : closed_of new ≡ closed_of old ++ record { pass = old.number; frame = frame } ∷ []

-- a pass has gone on, and what is printed of the frames that it closed stands behind the others
pub record Renders (share : Share) (full : Bool) (old new : PassView) (frames frames' : List FrameView) : Type 0 where
  pub closed : List Closing
  pub goes : Goes share full closed old new
  pub prints : frames' ≡ frames ++ map (shown old.clip.land.terrain old.clip.size) closed
