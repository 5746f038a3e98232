-- The events among the steps of a script.
use Rattle.std.proofs.Common.{ℕ, List, [], ◌∷◌, All}
use Rattle.std.proofs.lemmas.List.Elements.{All-head, All-tail, All-cons, All-nil}
use Rattle.std.specs.List.{filter_map}
use Rattle.clip_script.specs.Ranges.{IsStep}
use Rattle.clip_script.specs.declared.step.Step.{Step}
use Rattle.clip_script.specs.declared.step.Step.TheVariants.{Book, See, EndSeen}
use Rattle.plan_plain.specs.declared.runs.PlainAsked.{PlainAsked}
use Rattle.plan_plain.specs.Asked.{IsAsked}
use Rattle.plan_log.specs.Logs.{event_of}

-- they are ones that a state of the script's levels can take
pub events_asked : (levels : ℕ) (steps : List Step) → All (IsStep levels) steps → All (IsAsked levels) (filter_map event_of steps)
events_asked levels [] all = All-nil (IsAsked levels)
events_asked levels (Book pass event ∷ steps) all =
    let head = All-head (IsStep levels) (Book pass event) steps all in
    let asked : PlainAsked = record { pass = pass; event = event } in
    All-cons (IsAsked levels) asked (filter_map event_of steps) (record { pass = head.pass; event = head.event })
    (events_asked levels steps (All-tail (IsStep levels) (Book pass event) steps all))
events_asked levels (See view ∷ steps) all = events_asked levels steps (All-tail (IsStep levels) (See view) steps all)
events_asked levels (EndSeen pass ∷ steps) all = events_asked levels steps (All-tail (IsStep levels) (EndSeen pass) steps all)
