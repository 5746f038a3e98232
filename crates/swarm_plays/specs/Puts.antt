-- What a play of a history puts.
use Rattle.std.specs.Prelude.{ℕ, List, [], ◌∷◌}
use Rattle.terrain_model.specs.Terrain.{Terrain}
use Rattle.swarm_laws.specs.Closings.{Closing}
use Rattle.run_actions.specs.Actions.{Action, Put, Write}
use Rattle.clip_desk.specs.Frames.{frame_name, mesh_of, whole_text_of}

-- the puts of some actions, in their order
abbrev pub puts_in : List Action → List Action
puts_in [] = []
puts_in (Put name bytes ∷ actions) = Put name bytes ∷ puts_in actions
puts_in (Write piece ∷ actions) = puts_in actions

-- the file of a frame that was closed, over a terrain, for K and under a name
abbrev pub closing_put : Terrain → ℕ → List ℕ → Closing → Action
closing_put terrain k name closing =
    Put (frame_name name closing.frame.number) (whole_text_of closing.frame (mesh_of terrain k closing.frame))
