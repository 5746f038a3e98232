-- What is true of legal lists of entries, as statements: each is the contract of a law of this crate.
-- A history is such a list from a start state.
use Rattle.std.specs.Prelude.{◌≡◌, ℕ, ◌<◌, ◌↔◌, List, [], ◌∷◌, ◌++◌, length, take}
use Rattle.plan_model.specs.States.{State}
use Rattle.plan_model.specs.Steps.{step}
use Rattle.plan_model.specs.Histories.{IsAllowed, IsLegalFrom, state_after}
use Rattle.plan_model.specs.declared.events.Entry.{Entry}

-- the state after two lists of entries is that after the second, from the state that the first leaves
abbrev pub StatesAfterTwo : Type 0
StatesAfterTwo =
    (st : State) (first second : List Entry) →
    state_after st (first ++ second) ≡ state_after (state_after st first) second

-- two lists of entries are legal together where the first is legal and the second from the state that it leaves
abbrev pub LegalTogether : Type 0
LegalTogether =
    (st : State) (first second : List Entry) →
    IsLegalFrom st (first ++ second) ↔ (IsLegalFrom st first × IsLegalFrom (state_after st first) second)

-- a front of a legal list of entries is legal
abbrev pub LegalFronts : Type 0
LegalFronts = (st : State) (entries : List Entry) (n : ℕ) → IsLegalFrom st entries → IsLegalFrom st (take n entries)

-- in a state the entry's pass is there, its event is allowed, and its answer is the one that the event has
abbrev pub IsLegalNext : State → Entry → Type 0
IsLegalNext st e =
    (e.pass < length st.passes) × IsAllowed st e.pass e.event × ((step st e.pass e.event).answer ≡ e.answer)

-- a list with one entry more is legal where the list is and the entry is legal in the state that it leaves
abbrev pub LegalWithOneMore : Type 0
LegalWithOneMore =
    (st : State) (entries : List Entry) (e : Entry) →
    IsLegalFrom st (entries ++ e ∷ []) ↔ (IsLegalFrom st entries × IsLegalNext (state_after st entries) e)

-- the state after one entry more is what its event leaves
abbrev pub StatesAfterOneMore : Type 0
StatesAfterOneMore =
    (st : State) (entries : List Entry) (e : Entry) →
    state_after st (entries ++ e ∷ []) ≡ (step (state_after st entries) e.pass e.event).state
