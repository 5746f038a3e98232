-- The pieces of a level that can be claimed, by the slots of its strip.
use Rattle.std.proofs.Common.{◌≡◌, ℕ, ◌<◌, Bool, true, false, not, ◌&&◌, cond, List, [], ◌∷◌, map, filter, length, get_or, Option, Some, None, refl, ap, sym, ◌∙◌, inl, inr}
use Rattle.std.specs.List.{flat_map}
use Rattle.std.proofs.lemmas.Bool.{cases_Bool}
use Rattle.clip_regions.specs.declared.region.Region.{Region}
use Rattle.plan_model.specs.Strips.{pieces}
use Rattle.plan_model.specs.States.{State, Level, level_at, used_from_coarsest}
use Rattle.plan_model.specs.Claims.{Offer, strip_at, strip_pieces, pieces_at, is_finished, is_claimable, is_offered, offers_of, offers}
use Rattle.plan_model.specs.Steps.{claimed_job}
use Rattle.plan_model.specs.declared.tiles.Piece.{Piece}
use Rattle.plan_model.specs.declared.events.JobNote.{JobNote}
use Rattle.plan_laws.specs.Pieces.{DifferentBlocks}
use Rattle.book_plan.specs.declared.slots.Slot.{Slot}
use Rattle.book_plan.specs.Slots.{is_open, all_pieces, open_pieces}
use Rattle.book_plan.specs.Desks.{Desk, state_of, shelf_at, HaveSlots}
use Rattle.book_plan.specs.Offered.{is_free, is_claimable_slot, is_strip_offered, pieces_in, pieces_offered, jobs_on}
use Rattle.book_plan.proofs.Shelves.{level_is}
use Rattle.book_plan.proofs.Flags.{flagged, by_slots}
use Rattle.book_plan.proofs.Finished.{differ}
use Rattle.book_plan.proofs.Moved.{map_map}
use Rattle.book_plan.proofs.Filled.{map_flat}

-- a finished slot can't be claimed
pub finished_not : (st : State) (level : ℕ) (slot : Slot) → slot.finished ≡ true → is_claimable_slot st level slot ≡ false
unfolding is_claimable_slot
finished_not st level slot e = ap (λ (b : Bool). not b && is_free st level slot.piece) e

claimable_open : (st : State) (level : ℕ) (slot : Slot) → is_open slot ≡ false → is_claimable_slot st level slot ≡ false
unfolding is_claimable_slot
claimable_open st level slot e = ap (λ (b : Bool). b && is_free st level slot.piece) e

-- whether a piece can be claimed, of what is finished
and_moved : (a b c : Bool) → ((a && b) && c) ≡ (a && (b && c))
and_moved true b c = refl
and_moved false b c = refl

claimable_is : (st : State) (level : ℕ) (piece : Piece) → is_claimable st level piece ≡ (not (is_finished (level_at st level).finished piece) && is_free st level piece)
unfolding is_claimable is_free
claimable_is st level piece = and_moved (not (is_finished (level_at st level).finished piece)) _ _

pub claimable_are : DifferentBlocks → (d : Desk) (level : ℕ) → HaveSlots d → level < length d.levels → filter (is_claimable (state_of d) level) (pieces_at (state_of d) level) ≡ all_pieces (filter (is_claimable_slot (state_of d) level) (shelf_at d level).slots)
unfolding is_claimable_slot
claimable_are law d level slots h =
    ap (filter (is_claimable (state_of d) level)) (sym (slots level h))
    ∙ by_slots (is_claimable (state_of d) level) (is_claimable_slot (state_of d) level) (shelf_at d level).slots
    (λ n e b.
    let piece : Piece = (get_or (shelf_at d level).slots n e).piece in
    claimable_is (state_of d) level piece ∙ ap (λ (it : Level). not (is_finished it.finished piece) && is_free (state_of d) level piece) (level_is d.levels level) ∙ ap (λ (f : Bool). not f && is_free (state_of d) level piece) (flagged (shelf_at d level).slots (differ law d level slots h) n e b))

pieces_cond : (st : State) (level : ℕ) (o : Option Region) → pieces_in st level o ≡ cond (is_strip_offered st level o) (filter (is_claimable st level) (strip_pieces o)) []
pieces_cond st level None = refl
pieces_cond st level (Some strip) = refl

pub offered_are : DifferentBlocks → (d : Desk) (level : ℕ) → HaveSlots d → level < length d.levels → pieces_offered (state_of d) level ≡ cond (is_strip_offered (state_of d) level (strip_at (state_of d) level)) (all_pieces (filter (is_claimable_slot (state_of d) level) (shelf_at d level).slots)) []
offered_are law d level slots h =
    pieces_cond (state_of d) level (strip_at (state_of d) level) ∙ ap (λ (ps : List Piece). cond (is_strip_offered (state_of d) level (strip_at (state_of d) level)) ps []) (claimable_are law d level slots h)

-- where no slot is open, nothing is offered
none_open : (st : State) (level : ℕ) (slots : List Slot) → open_pieces slots ≡ [] → filter (is_claimable_slot st level) slots ≡ []
none_open st level [] e = refl
none_open st level (s ∷ slots) e =
    elim (cases_Bool (is_open s)) [
      | inl t ↦
          let some : s.piece ∷ open_pieces slots ≡ [] = sym (ap (λ (b : Bool). all_pieces (cond b (s ∷ filter is_open slots) (filter is_open slots))) t) ∙ e in
          absurd (cc)
      | inr f ↦
          let rest : open_pieces slots ≡ [] = sym (ap (λ (b : Bool). all_pieces (cond b (s ∷ filter is_open slots) (filter is_open slots))) f) ∙ e in
          ap (λ (b : Bool). cond b (s ∷ filter (is_claimable_slot st level) slots) (filter (is_claimable_slot st level) slots)) (claimable_open st level s f) ∙ none_open st level slots rest
    ]

either_none : (b : Bool) → cond b (all_pieces []) [] ≡ []
either_none true = refl
either_none false = refl

pub none_offered : DifferentBlocks → (d : Desk) (level : ℕ) → HaveSlots d → level < length d.levels → open_pieces (shelf_at d level).slots ≡ [] → pieces_offered (state_of d) level ≡ []
none_offered law d level slots h e =
    offered_are law d level slots h ∙ ap (λ (ss : List Slot). cond (is_strip_offered (state_of d) level (strip_at (state_of d) level)) (all_pieces ss) []) (none_open (state_of d) level (shelf_at d level).slots e) ∙ either_none (is_strip_offered (state_of d) level (strip_at (state_of d) level))

-- ---- the jobs that the offers make
if_mapped : {X Y : Type 0} (f : X → Y) (b : Bool) (xs : List X) → map f (cond b xs []) ≡ cond b (map f xs) []
if_mapped f true xs = refl
if_mapped f false xs = refl

jobs_in : (st : State) (level : ℕ) (o : Option Region) → map (claimed_job st) (offers_of st level o) ≡ map (λ piece. let job : JobNote = record { level = level; piece = piece; plan = (level_at st level).plan } in job) (pieces_in st level o)
jobs_in st level None = refl
jobs_in st level (Some strip) =
    if_mapped (claimed_job st) (is_offered st level strip) (map (λ piece. let offer : Offer = record { level = level; piece = piece } in offer) (filter (is_claimable st level) (pieces strip)))
    ∙ ap (λ (js : List JobNote). cond (is_offered st level strip) js []) (map_map (claimed_job st) (λ piece. let offer : Offer = record { level = level; piece = piece } in offer) (λ piece. let job : JobNote = record { level = level; piece = piece; plan = (level_at st level).plan } in job) (filter (is_claimable st level) (pieces strip)) (λ piece. refl))
    ∙ sym (if_mapped (λ piece. let job : JobNote = record { level = level; piece = piece; plan = (level_at st level).plan } in job) (is_offered st level strip) (filter (is_claimable st level) (pieces strip)))

pub jobs_are : (st : State) → map (claimed_job st) (offers st) ≡ flat_map (jobs_on st) (used_from_coarsest st)
unfolding offers
jobs_are st =
    map_flat (claimed_job st) (λ level. offers_of st level (strip_at st level)) (jobs_on st) (used_from_coarsest st) (λ level. jobs_in st level (strip_at st level))
