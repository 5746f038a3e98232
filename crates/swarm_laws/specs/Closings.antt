-- The frames that a history closes.
use Rattle.std.specs.Prelude.{ℕ, ◌==◌, Option, Some, None, List, [], ◌∷◌, ◌++◌, filter, flat_map}
use Rattle.std.specs.List.{range_with_len}
use Rattle.plan_model.specs.States.{State, OpenFrame, start_state, pass_at, frame_of}
use Rattle.plan_model.specs.Steps.{step}
use Rattle.plan_model.specs.declared.events.Event.{Event}
use Rattle.plan_model.specs.declared.events.Event.TheVariants.{End}
use Rattle.plan_model.specs.declared.events.Entry.{Entry}

-- a frame that was ended, and the pass that ended it
pub record Closing : Type 0 where
  pub pass : ℕ
  pub frame : OpenFrame

abbrev pub one_closing : ℕ → Option OpenFrame → List Closing
one_closing p None = []
one_closing p (Some frame) = record { pass = p; frame = frame } ∷ []

-- the frame that an event of pass p closes, if the pass has this frame
abbrev pub closed_by : Event → ℕ → Option OpenFrame → List Closing
closed_by End p frame = one_closing p frame
closed_by _ p frame = []

-- the frames that a list of entries closes from a state on, in their order
abbrev pub closings : State → List Entry → List Closing
closings st [] = []
closings st (e ∷ rest) =
    closed_by e.event e.pass (frame_of (pass_at st e.pass)) ++ closings (step st e.pass e.event).state rest

-- the frames that a history closes, and those of them that pass p closes
abbrev pub closings_in : ℕ → ℕ → List Entry → List Closing
closings_in k levels log = closings (start_state k levels) log

abbrev pub closings_of : ℕ → List Closing → List Closing
closings_of p all = filter (λ c. c.pass == p) all

-- those of the passes below n, pass after pass
abbrev pub closings_by : ℕ → List Closing → List Closing
closings_by n all = flat_map (λ p. closings_of p all) (range_with_len 0 n)
