-- The command `frame`.
use Rattle.std.specs.Prelude.{List}
use Rattle.outer_shelf.specs.Outside.{Files}
use Rattle.terrain_store.specs.Shapes.{Land}
use Rattle.clip_runs.specs.WholeFrame.{frame_actions}
use Rattle.clipmap_words.specs.Frame.{FrameView}
use Rattle.run_actions.specs.Actions.{Action}
use Rattle.clipmap_prog.specs.Lands.{land_reading}
use Rattle.clipmap_prog.specs.Outcome.{Outcome, concluded}
use Rattle.clipmap_prog.specs.Stores.{Verdict}

-- what a `frame` does over its terrain: the frame of whole windows round its viewer
abbrev pub drawn : FrameView → Land → List Action
drawn frame land = frame_actions frame.k land.levels frame.x frame.y frame.out land.terrain

-- what a `frame` does
unfoldable pub frame_outcome : Verdict → FrameView → Files → Outcome
frame_outcome verdict frame files = concluded (drawn frame) (land_reading verdict frame.inputs frame.levels files)
