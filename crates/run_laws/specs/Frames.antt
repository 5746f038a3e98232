-- What is true of the frames of a book, as a statement: the contract of a law of this crate.
use Rattle.std.specs.Prelude.{ℕ, List, All}
use Rattle.terrain_model.specs.Terrain.{Terrain}
use Rattle.plan_model.specs.Limits.{IsSize, IsLevelCount}
use Rattle.plan_model.specs.States.{OpenFrame}
use Rattle.plan_model.specs.Histories.{state_of_history}
use Rattle.plan_model.specs.Sound.{IsTaken}
use Rattle.plan_model.specs.declared.events.Entry.{Entry}
use Rattle.plan_holds.specs.Kept.{HasFrame}
use Rattle.mesh_model.specs.Watertight.{IsWatertight}

-- the event of an entry is one that a book of so many levels can take
abbrev pub IsTakenEntry : ℕ → Entry → Type 0
IsTakenEntry levels entry = IsTaken levels entry.event

-- after any events, in any order, the mesh of each open frame is watertight, over every terrain
abbrev pub OpenFramesAreWatertight : Type 0
OpenFramesAreWatertight =
    (terrain : Terrain) (k levels : ℕ) (entries : List Entry) (p : ℕ) (frame : OpenFrame) →
    IsSize k → IsLevelCount levels → All (IsTakenEntry levels) entries →
    HasFrame (state_of_history k levels entries) p frame → IsWatertight terrain k frame.actives
