-- What a swarm is asked to do, which histories are whole runs of it, and which are runs that were cut.
use Rattle.std.specs.Prelude.{◌≡◌, ℕ, ◌<◌, ◌≤◌, ◌&&◌, ◌==◌, ◌⊎◌, ℤ, Bool, true, false, List, [], ◌∷◌, ◌++◌, filter, flat_map, count_by, length, Option, Some, option_map, All, AllPairs, if◌then◌else◌}
use Rattle.std.specs.List.{list_any}
use Rattle.plan_model.specs.Strips.{first_of}
use Rattle.plan_model.specs.declared.events.Event.{Event}
use Rattle.plan_model.specs.declared.events.Event.TheVariants.{Move, Claim, Finish, Publish, Begin, End}
use Rattle.plan_model.specs.declared.events.Answer.{Answer}
use Rattle.plan_model.specs.declared.events.Answer.TheVariants.{Job, Idle, Ripe, HasWork, Frame, NoFrame}
use Rattle.plan_model.specs.declared.events.Entry.{Entry}

-- a viewer's place: its column, its row and its altitude
abbrev pub Place : Type 0
Place = ℤ × ℤ × ℕ

-- what a swarm is asked to do: each worker makes so many claims, each renderer begins so many frames, and the mover
-- makes the moves
pub record Orders : Type 0 where
  pub workers : ℕ
  pub renderers : ℕ
  pub claims : ℕ
  pub begins : ℕ
  pub moves : List Place

-- ---- what is counted

-- the entries of pass p
abbrev pub entries_of : ℕ → List Entry → List Entry
entries_of p log = filter (λ e. e.pass == p) log

-- where an event moves the viewer
abbrev pub moved_by : Event → List Place
moved_by (Move x y a) = (x, y, a) ∷ []
moved_by _ = []

-- the moves of a history, in their order
abbrev pub moves_made : List Entry → List Place
moves_made log = flat_map (λ e. moved_by e.event) log

abbrev pub is_claim : Event → Bool
is_claim Claim = true
is_claim _ = false

abbrev pub is_begin : Event → Bool
is_begin Begin = true
is_begin _ = false

-- the event publishes the level
abbrev pub publishes : ℕ → Event → Bool
publishes level (Publish published) = published == level
publishes level _ = false

-- the answer says that the level is ripe
abbrev pub says_ripe : ℕ → Answer → Bool
says_ripe level (Ripe ripe) = ripe == level
says_ripe level _ = false

-- how many claims and beginnings a list of entries has
abbrev pub claims_in : List Entry → ℕ
claims_in log = count_by (λ e. is_claim e.event) log

abbrev pub begins_in : List Entry → ℕ
begins_in log = count_by (λ e. is_begin e.event) log

-- how many publications of a level, and how many answers that it is ripe
abbrev pub publications_in : ℕ → List Entry → ℕ
publications_in level log = count_by (λ e. publishes level e.event) log

abbrev pub ripes_in : ℕ → List Entry → ℕ
ripes_in level log = count_by (λ e. says_ripe level e.answer) log

-- ---- the order of a pass's events

-- the event is one of its pass: the pass of a move or a publication decides nothing
abbrev pub is_of_pass : Event → Bool
is_of_pass (Move x y a) = false
is_of_pass (Publish level) = false
is_of_pass _ = true

-- the next event of pass p
abbrev pub next_of : ℕ → List Entry → Option Event
next_of p rest = option_map (λ e. e.event) (first_of (filter (λ e. (e.pass == p) && is_of_pass e.event) rest))

-- what an answer to pass p asks of what comes after it: a job is given back, and a frame is ended, by the pass's next
-- event
abbrev pub IsFollowed : Answer → ℕ → List Entry → Type 0
IsFollowed (Job level bx by cells plan) p rest = next_of p rest ≡ Some Finish
IsFollowed (Frame number) p rest = next_of p rest ≡ Some End
IsFollowed _ p rest = Unit {0}

-- so it is of each entry of a history
abbrev pub AreFollowed : List Entry → Type 0
AreFollowed [] = Unit {0}
AreFollowed (e ∷ rest) = IsFollowed e.answer e.pass rest × AreFollowed rest

-- no job to give back, no frame to end, and work where none may be: answers that a swarm never gets
abbrev pub IsApt : Event → Answer → Type 0
IsApt event HasWork = ⊥
IsApt event NoFrame = ⊥
IsApt Finish Idle = ⊥
IsApt event answer = Unit {0}

-- what whole and cut runs have in common
pub record IsOrderly (log : List Entry) : Type 0 where
  pub followed : AreFollowed log
  pub apt : All (λ e. IsApt e.event e.answer) log

-- ---- runs

-- which passes claim and which begin frames, no pass twice
pub record Crew (orders : Orders) : Type 0 where
  pub claimers : List ℕ
  pub beginners : List ℕ
  pub workers : length claimers ≡ orders.workers
  pub renderers : length beginners ≡ orders.renderers
  pub apart : AllPairs (λ p q. p ≡ q → ⊥) (claimers ++ beginners)

-- the pass is one of these
abbrev pub is_among : List ℕ → ℕ → Bool
is_among passes p = list_any (λ q. q == p) passes

-- how many claims and beginnings a pass of a crew has to make
abbrev pub claims_due : (orders : Orders) → Crew orders → ℕ → ℕ
claims_due orders crew p = if is_among crew.claimers p then orders.claims else 0

abbrev pub begins_due : (orders : Orders) → Crew orders → ℕ → ℕ
begins_due orders crew p = if is_among crew.beginners p then orders.begins else 0

-- a history is a whole run: the moves are those that were asked for, each pass makes its claims and beginnings, and
-- each level is published as often as a claim was told that it is ripe
pub record IsSwarmRun (orders : Orders) (log : List Entry) : Type 0 where
  pub crew : Crew orders
  pub orderly : IsOrderly log
  pub moves : moves_made log ≡ orders.moves
  pub claims : (p : ℕ) → claims_in (entries_of p log) ≡ claims_due orders crew p
  pub begins : (p : ℕ) → begins_in (entries_of p log) ≡ begins_due orders crew p
  pub publications : (level : ℕ) → publications_in level log ≡ ripes_in level log

-- a list goes on to another
pub record IsFront {X : Type 0} (front whole : List X) : Type 0 where
  pub rest : List X
  pub is : whole ≡ front ++ rest

-- some of it is lacking: a move, a claim, a beginning or a publication
abbrev pub IsLacking : (orders : Orders) → Crew orders → List Entry → Type 0
IsLacking orders crew log =
    (length (moves_made log) < length orders.moves)
    ⊎ (((p : ℕ) × (claims_in (entries_of p log) < claims_due orders crew p))
    ⊎ (((p : ℕ) × (begins_in (entries_of p log) < begins_due orders crew p))
    ⊎ ((level : ℕ) × (publications_in level log < ripes_in level log))))

-- a history is a run that was cut: the moves are the first of those that were asked for, no pass makes more than its
-- claims and beginnings, no level is published more often than a claim was told that it is ripe, and some of it is
-- lacking
pub record IsCutRun (orders : Orders) (log : List Entry) : Type 0 where
  pub crew : Crew orders
  pub orderly : IsOrderly log
  pub moves : IsFront (moves_made log) orders.moves
  pub claims : (p : ℕ) → claims_in (entries_of p log) ≤ claims_due orders crew p
  pub begins : (p : ℕ) → begins_in (entries_of p log) ≤ begins_due orders crew p
  pub publications : (level : ℕ) → publications_in level log ≤ ripes_in level log
  pub lacking : IsLacking orders crew log
