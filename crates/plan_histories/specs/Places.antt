-- How many places and how many moves a history has, as statements: each is the contract of a law of this crate.
use Rattle.std.specs.Prelude.{◌≡◌, ℕ, ◌+◌, ◌≤◌, List, [], ◌∷◌, ◌++◌, if◌then◌else◌}
use Rattle.plan_model.specs.Histories.{IsLegalHistory, places, is_move, moves}
use Rattle.plan_model.specs.declared.events.Event.{Event}
use Rattle.plan_model.specs.declared.events.Event.TheVariants.{Move, Claim, Finish, Publish, Begin, End}
use Rattle.plan_model.specs.declared.events.Answer.{Answer}
use Rattle.plan_model.specs.declared.events.Answer.TheVariants.{Job, Frame, Closed}
use Rattle.plan_model.specs.declared.events.Entry.{Entry}

-- how many places a claim takes, by its answer: its entry, and one more for a job
abbrev pub places_of_claim : Answer → ℕ
places_of_claim (Job level bx by cells plan) = 2
places_of_claim _ = 1

-- how many a beginning takes: its entry, and one more for a frame
abbrev pub places_of_begin : Answer → ℕ
places_of_begin (Frame number) = 2
places_of_begin _ = 1

-- how many an end takes: its entry, in the place of the frame that it closes
abbrev pub places_of_end : Answer → ℕ
places_of_end (Closed number) = 0
places_of_end _ = 1

-- how many places an event with its answer takes: a job that is given back makes way for its entry
abbrev pub places_of : Event → Answer → ℕ
places_of (Move x y a) answer = 1
places_of Claim answer = places_of_claim answer
places_of Finish answer = 0
places_of (Publish level) answer = 1
places_of Begin answer = places_of_begin answer
places_of End answer = places_of_end answer

-- how many places an event takes at most, whatever its answer
abbrev pub most_places_of : Event → ℕ
most_places_of (Move x y a) = 1
most_places_of Claim = 2
most_places_of Finish = 0
most_places_of (Publish level) = 1
most_places_of Begin = 2
most_places_of End = 1

-- a history of no entry takes no place
abbrev pub NoEntryNoPlace : Type 0
NoEntryNoPlace = (k levels : ℕ) → places k levels [] ≡ 0

-- a legal history with one entry more takes as many places more as its event with its answer
abbrev pub PlacesWithOneMore : Type 0
PlacesWithOneMore =
    (k levels : ℕ) (entries : List Entry) (e : Entry) → IsLegalHistory k levels (entries ++ e ∷ []) →
    places k levels (entries ++ e ∷ []) ≡ places k levels entries + places_of e.event e.answer

-- an event takes at most so many places
abbrev pub PlacesAreFew : Type 0
PlacesAreFew = (event : Event) (answer : Answer) → places_of event answer ≤ most_places_of event

-- the moves of two lists of entries together, and of one entry more
abbrev pub MovesOfTwo : Type 0
MovesOfTwo = (first second : List Entry) → moves (first ++ second) ≡ moves first + moves second

abbrev pub MovesWithOneMore : Type 0
MovesWithOneMore =
    (entries : List Entry) (e : Entry) → moves (entries ++ e ∷ []) ≡ moves entries + (if is_move e.event then 1 else 0)
