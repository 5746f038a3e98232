-- What passes have while events are answered, as statements: each is the contract of a law of this crate.
use Rattle.std.specs.Prelude.{◌≡◌, ℕ, ◌↔◌, ℤ, List, ◌++◌, length}
use Rattle.plan_model.specs.States.{State, pass_at}
use Rattle.plan_model.specs.Steps.{step}
use Rattle.plan_model.specs.Histories.{HasNoEntryOf, state_after, state_of_history}
use Rattle.plan_model.specs.declared.events.Event.{Event}
use Rattle.plan_model.specs.declared.events.Event.TheVariants.{Move, Publish}
use Rattle.plan_model.specs.declared.events.Entry.{Entry}
use Rattle.plan_model.specs.declared.events.Work.TheVariants.{Free}

-- an event leaves the number of passes
abbrev pub PassesAreKept : Type 0
PassesAreKept = (st : State) (p : ℕ) (event : Event) → length (step st p event).state.passes ≡ length st.passes

-- a move and a publication leave what each pass has
abbrev pub MovesLeaveParts : Type 0
MovesLeaveParts = (st : State) (p : ℕ) (x y : ℤ) (a : ℕ) → (step st p (Move x y a)).state.passes ≡ st.passes

abbrev pub PublicationsLeaveParts : Type 0
PublicationsLeaveParts = (st : State) (p level : ℕ) → (step st p (Publish level)).state.passes ≡ st.passes

-- an event of one pass leaves what every other pass has
abbrev pub OthersKeepParts : Type 0
OthersKeepParts =
    (st : State) (p q : ℕ) (event : Event) → ¬ (p ≡ q) → pass_at (step st p event).state q ≡ pass_at st q

-- a list of entries without one of a pass leaves what the pass has
abbrev pub EntriesOfOthersLeaveParts : Type 0
EntriesOfOthersLeaveParts =
    (st : State) (entries : List Entry) (p : ℕ) → HasNoEntryOf p entries →
    pass_at (state_after st entries) p ≡ pass_at st p

-- a pass without an entry in a history has nothing
abbrev pub NoEntryNoPart : Type 0
NoEntryNoPart =
    (k levels : ℕ) (entries : List Entry) (p : ℕ) → HasNoEntryOf p entries →
    pass_at (state_of_history k levels entries) p ≡ Free

-- two lists together have no entry of a pass where neither has one
abbrev pub NoEntryInTwo : Type 0
NoEntryInTwo =
    (p : ℕ) (first second : List Entry) →
    HasNoEntryOf p (first ++ second) ↔ (HasNoEntryOf p first × HasNoEntryOf p second)
