-- Which frame a beginning gives.
use Rattle.std.specs.Prelude.{◌≡◌, ℕ}
use Rattle.plan_model.specs.States.{OpenFrame}
use Rattle.plan_model.specs.Steps.{next_frame}
use Rattle.plan_model.specs.declared.events.Event.TheVariants.{Begin}
use Rattle.plan_model.specs.declared.events.Answer.TheVariants.{Frame}
use Rattle.plan_model.specs.declared.events.Work.TheVariants.{Free}
use Rattle.gate_rule.specs.Rule.{state_in}
use Rattle.clip_gate.specs.Passes.{PassView, ground_of_clip, part_of, IsSound}
use Rattle.clip_gate.specs.Calls.{HasMade}
use Rattle.clip_frames.specs.Reading.{HasOpen}

-- where a free pass began a frame, it has the one that is next in the state of the history before the beginning
abbrev pub FramesAreThoseOfTheirBeginning : Type 0
FramesAreThoseOfTheirBeginning =
    (number : ℕ) (old new : PassView) → IsSound old → part_of old ≡ Free →
    (made : HasMade Begin (Frame number) 2 old new) →
    HasOpen new (next_frame (state_in (ground_of_clip old.clip) made.before))
