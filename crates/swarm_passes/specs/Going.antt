-- What a pass of a run has done of its share.
use Rattle.std.specs.Prelude.{◌≡◌, ◌≤◌, Bool, true, false, List, ◌++◌}
use Rattle.plan_model.specs.declared.events.Entry.{Entry}
use Rattle.plan_model.specs.declared.events.Work.TheVariants.{Free}
use Rattle.clip_gate.specs.Passes.{PassView, part_of}
use Rattle.clip_gate.specs.Calls.{IsSamePass, places_of_pass}
use Rattle.swarm_laws.specs.Runs.{entries_of, IsOrderly}
use Rattle.swarm_laws.specs.Shares.{Share, DoAll, DoNoMore, DoLess}
use Rattle.swarm_laws.specs.Closings.{Closing, closings_in, closings_of}

-- the entries of a pass's number in its history, and the frames that it has closed
abbrev pub own_of : PassView → List Entry
own_of pass = entries_of pass.number pass.history

abbrev pub closed_of : PassView → List Closing
closed_of pass = closings_of pass.number (closings_in pass.clip.size pass.clip.land.levels pass.history)

-- a pass that has nothing has gone on to have nothing again, by entries that are in order and do no more than a share:
-- all of it, or, where the journal was full, less. These are the frames that it closed
pub record Goes (share : Share) (full : Bool) (closed : List Closing) (old new : PassView) : Type 0 where
  pub same : IsSamePass old new
  pub free : part_of new ≡ Free
  pub entries : List Entry
  pub own : own_of new ≡ own_of old ++ entries
  pub closes : closed_of new ≡ closed_of old ++ closed
  pub orderly : IsOrderly entries
  pub bound : DoNoMore share entries
  pub all : full ≡ false → DoAll share entries
  pub less : full ≡ true → DoLess share entries
  pub long : full ≡ true → 1048575 ≤ places_of_pass new new.history
