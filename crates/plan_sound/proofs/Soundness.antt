-- The start is sound, and each event of a pass leaves a sound state sound.
use Rattle.std.proofs.Common.{◌≡◌, ℕ, ◌+◌, ◌-◌, ◌<◌, ◌^◌, Bool, true, ◌==◌, ℤ, pos, List, [], ◌∷◌, map, flat_map, filter, reverse, length, replicate, get_or, set, Option, Some, None, refl, sym, ◌∙◌, subst, inl, inr, arith}
use Rattle.std.specs.Bool.{beq}
use Rattle.std.specs.List.{All, range_with_len}
use Rattle.std.specs.Option.{IfSome}
use Rattle.std.proofs.lemmas.Int.{ints}
use Rattle.std.proofs.lemmas.Bool.{cond_both, cases_eq, and_parts}
use Rattle.std.proofs.lemmas.List.{length-set, length-replicate, length-reverse, length-map, get_or-map, get_or-replicate, get_or-set_same, get_or-set_other, get_or-reverse, get_or_default}
use Rattle.std.proofs.lemmas.List.FromFn.{length-range_with_len, length-map-range_with_len, get_or-range_with_len, get_or-map-range_with_len}
use Rattle.std.proofs.lemmas.List.Elements.{All-nil, All-append, All-map, All-set, All-replicate, All-from_get_or, All-head, All-tail}
use Rattle.clip_regions.specs.declared.region.Region.{Region}
use Rattle.clip_regions.specs.Regions.{empty_region, meet, HasEvenCorners, IsWithin}
use Rattle.plan_model.specs.Limits.{IsSize, IsLevelCount, IsViewed, IsViewer}
use Rattle.plan_model.specs.Window.{window}
use Rattle.plan_model.specs.Strips.{first_of, current_strip, pieces}
use Rattle.plan_model.specs.Actives.{actives}
use Rattle.plan_model.specs.States.{Level, OpenFrame, Pass, State, empty_level, start_state, level_at, pass_at, with_level, with_pass, used_from_coarsest, finest_at, is_used, filled_at, filled_regions, window_at, same_region, job_of, frame_of, has_work}
use Rattle.plan_model.specs.Claims.{Offer, offers, offers_of, strip_at, unfinished_pieces, pieces_at, is_offered, is_claimable}
use Rattle.plan_model.specs.Steps.{Step, LevelTile, seen_from, stays, moved_level, moved_levels, move_step, claimed, claim_step, claimed_job, finished_level, finished_job, given_back, finish_step, grown_level, grown, published, publish_step, held_under, actives_at, next_frame, frame_begun, begin_step, ended, end_step}
use Rattle.plan_model.specs.Laws.{EvenWindows, EvenActives}
use Rattle.plan_model.specs.Sound.{IsInside, IsPartOf, IsSoundLevel, IsShown, IsSoundPass, IsSound}
use Rattle.plan_model.specs.declared.tiles.Piece.{Piece}
use Rattle.plan_model.specs.declared.events.JobNote.{JobNote}
use Rattle.plan_model.specs.declared.events.Work.TheVariants.{Free, Fills, Draws}
use Rattle.plan_model.specs.declared.events.Event.TheVariants.{Move, Claim, Finish, Publish, Begin, End}
use Rattle.plan_sound.specs.Laws.{SoundStarts, SoundSteps, WiderBounds, SoundStrips, FilledAreNear, SoundFrames, ActivesAreNear, OffersAreThere}
use Rattle.plan_sound.proofs.Placed.{window_within, window_inside, part_near}
use Rattle.plan_sound.proofs.Parts.{IsGrown, strip_inside, strip_grown, meet_part, same_is}
use Rattle.plan_sound.proofs.Actives.{actives_many, actives_parts, part_filled}

-- ---- lists
-- what is true of each element and of one that is put among them is true of each afterwards
put_at : {X : Type 0} (P : ℕ → X → Type 0) (xs : List X) (l i : ℕ) (x d : X) → (l < length xs → P l x) → (i < length xs → P i (get_or xs i d)) → i < length (set xs l x) → P i (get_or (set xs l x) i d)
put_at P xs l i x d put old inside =
    let here : i < length xs = subst (λ (m : ℕ). i < m) (length-set xs l x) inside in
    elim (cases_eq i l) [
      | inl e ↦ let there : l < length xs = subst (λ (j : ℕ). j < length xs) e here in subst (λ (j : ℕ). P j (get_or (set xs l x) j d)) (sym e) (subst (P l) (sym (get_or-set_same xs l x d there)) (put there))
      | inr e ↦ subst (P i) (sym (get_or-set_other xs l i x d e)) (old here)
    ]

all_reverse : {X : Type 0} (P : X → Type 0) (xs : List X) → All P xs → All P (reverse xs)
all_reverse P xs all k d inside =
    let here : k < length xs = subst (λ (m : ℕ). k < m) (length-reverse xs) inside in
    subst P (sym (get_or-reverse xs k d here)) (all (length xs - 1 - k) d (omega arith))

all_flat : {X Y : Type 0} (Q : X → Type 0) (P : Y → Type 0) (f : X → List Y) (xs : List X) → All Q xs → ((x : X) → Q x → All P (f x)) → All P (flat_map f xs)
all_flat Q P f [] all each = All-nil P
all_flat Q P f (x ∷ xs) all each =
    All-append P (f x) (flat_map f xs) (each x (All-head Q x xs all)) (all_flat Q P f xs (All-tail Q x xs all) each)

first_all : {X : Type 0} (P : X → Type 0) (xs : List X) → All P xs → IfSome (first_of xs) P
first_all P [] all = tt
first_all P (x ∷ xs) all = All-head P x xs all

-- ---- the parts of a state
level_put : (n : ℕ) (st : State) (level : ℕ) (new : Level) → (level < length st.levels → IsSoundLevel n (window_at st level) new) → IsSound n st → IsSound n (with_level st level new)
level_put n st level new put h = record {
  size = h.size;
  many = subst IsLevelCount (sym (length-set st.levels level new)) h.many;
  passes = h.passes;
  viewer = h.viewer;
  levels = λ i inside. put_at (λ (j : ℕ) (other : Level). IsSoundLevel n (window_at st j) other) st.levels level i new empty_level put (h.levels i) inside;
  begun = h.begun;
  parts = subst (λ (m : ℕ). All (IsSoundPass st.k m) st.passes) (sym (length-set st.levels level new)) h.parts;
}

pass_put : (n : ℕ) (st : State) (p : ℕ) (new : Pass) → IsSoundPass st.k (length st.levels) new → IsSound n st → IsSound n (with_pass st p new)
pass_put n st p new put h = record {
  size = h.size;
  many = h.many;
  passes = length-set st.passes p new ∙ h.passes;
  viewer = h.viewer;
  levels = h.levels;
  begun = h.begun;
  parts = All-set (IsSoundPass st.k (length st.levels)) st.passes p new put h.parts;
}

-- ---- the start, and larger bounds
viewed_zero : IsViewed (pos 0)
viewed_zero = record { low = omega (arith, ints); high = omega (arith, ints) }

pub start_sound : SoundStarts
unfolding start_state
start_sound k levels size many = record {
  size = size;
  many = subst IsLevelCount (sym (length-replicate levels empty_level)) many;
  passes = length-replicate {A = Pass} 16 Free;
  viewer = record { column = viewed_zero; row = viewed_zero; altitude = omega arith };
  levels = λ level inside. subst (IsSoundLevel 0 (window k level (pos 0) (pos 0))) (sym (get_or-replicate levels level empty_level empty_level (subst (λ (m : ℕ). level < m) (length-replicate levels empty_level) inside))) (record { filled = inl refl; plan = omega arith });
  begun = omega arith;
  parts = All-replicate (IsSoundPass k (length (replicate levels empty_level))) 16 Free tt;
}

pub more : WiderBounds
more n m st few h = record {
  size = h.size;
  many = h.many;
  passes = h.passes;
  viewer = h.viewer;
  levels = λ level inside. let sound : IsSoundLevel n (window_at st level) (level_at st level) = h.levels level inside in record { filled = sound.filled; plan = omega (arith, sound.plan, few) };
  begun = omega (arith, h.begun, few);
  parts = h.parts;
}

-- ---- a move
moved_sound : (n : ℕ) (b : Bool) (before after : Region) (old : Level) → (b ≡ true → before ≡ after) → HasEvenCorners after → IsSoundLevel n before old → IsSoundLevel (n + 1) after (moved_level b after old)
unfolding moved_level
moved_sound n b before after old same even h =
    cond_both b old (record { filled = meet old.filled after; finished = []; plan = old.plan + 1 }) (IsSoundLevel (n + 1) after) (λ e. record { filled = subst (λ (w : Region). IsPartOf w old.filled) (same e) h.filled; plan = omega (arith, h.plan) }) (λ e. record { filled = meet_part old.filled before after even h.filled; plan = omega (arith, h.plan) })

-- where a level stays, its window is the same
stays_same : (before after : State) (level : ℕ) → stays before after level ≡ true → window_at before level ≡ window_at after level
unfolding stays
stays_same before after level e =
    same_is (window_at before level) (window_at after level) (window_inside before.k level before.x before.y) (window_inside after.k level after.x after.y) (and_parts (same_region (window_at before level) (window_at after level)) (beq (is_used before level) (is_used after level)) e).0

abbrev moved_at : State → State → ℕ → Level
moved_at before after level = moved_level (stays before after level) (window_at after level) (level_at before level)

moved_count : (st after : State) → length (moved_levels st after) ≡ length st.levels
moved_count st after = length-map-range_with_len (moved_at st after) 0 (length st.levels)

even_window : EvenWindows → (st : State) (level : ℕ) → IsSize st.k → HasEvenCorners (window_at st level)
even_window law st level size = law st.k level st.x st.y (omega (arith, size.low))

move_sound : EvenWindows → (n : ℕ) (st : State) (x y : ℤ) (a : ℕ) → IsViewer x y a → IsSound n st → IsSound (n + 1) (move_step st x y a).state
unfolding move_step
move_sound law n st x y a viewer h =
    let after : State = seen_from st x y a in
    record {
      size = h.size;
      many = subst IsLevelCount (sym (moved_count st after)) h.many;
      passes = h.passes;
      viewer = viewer;
      levels = λ level inside. let here : level < length st.levels = subst (λ (m : ℕ). level < m) (moved_count st after) inside in subst (IsSoundLevel (n + 1) (window_at after level)) (sym (get_or-map-range_with_len (moved_at st after) 0 (length st.levels) level level empty_level here (omega arith))) (moved_sound n (stays st after level) (window_at st level) (window_at after level) (level_at st level) (stays_same st after level) (even_window law after level h.size) (h.levels level here));
      begun = omega (arith, h.begun);
      parts = subst (λ (m : ℕ). All (IsSoundPass st.k m) st.passes) (sym (moved_count st after)) h.parts;
    }

-- ---- a claim
offers_of_level : (st : State) (level : ℕ) (strip : Option Region) → level < length st.levels → All (λ (offer : Offer). offer.level < length st.levels) (offers_of st level strip)
offers_of_level st level None inside = All-nil (λ (offer : Offer). offer.level < length st.levels)
offers_of_level st level (Some strip) inside =
    cond_both (is_offered st level strip) (map (λ (piece : Piece). let offer : Offer = record { level = level; piece = piece } in offer) (filter (is_claimable st level) (pieces strip))) [] (All (λ (offer : Offer). offer.level < length st.levels)) (λ e. All-map (λ (offer : Offer). offer.level < length st.levels) (λ (piece : Piece). record { level = level; piece = piece }) (filter (is_claimable st level) (pieces strip)) (λ k d there. inside)) (λ e. All-nil (λ (offer : Offer). offer.level < length st.levels))

numbers_below : (first n : ℕ) → All (λ (level : ℕ). level < n) (reverse (range_with_len first (n - first)))
numbers_below first n =
    all_reverse (λ (level : ℕ). level < n) (range_with_len first (n - first)) (All-from_get_or (λ (level : ℕ). level < n) (range_with_len first (n - first)) 0 (λ i inside. let here : i < n - first = subst (λ (m : ℕ). i < m) (length-range_with_len first (n - first)) inside in subst (λ (level : ℕ). level < n) (sym (get_or-range_with_len first (n - first) i 0 here)) (omega arith)))

-- each offer is of a level that is there
pub offers_there : OffersAreThere
unfolding offers
offers_there st =
    all_flat (λ (level : ℕ). level < length st.levels) (λ (offer : Offer). offer.level < length st.levels) (λ (level : ℕ). offers_of st level (strip_at st level)) (used_from_coarsest st) (numbers_below (finest_at st) (length st.levels)) (λ level inside. offers_of_level st level (strip_at st level) inside)

claimed_sound : (n : ℕ) (st : State) (p : ℕ) (offer : Option Offer) → IfSome offer (λ (o : Offer). o.level < length st.levels) → IsSound n st → IsSound n (claimed st p offer).state
claimed_sound n st p None there h = h
claimed_sound n st p (Some offer) there h = pass_put n st p (Fills (claimed_job st offer)) there h

claim_sound : (n : ℕ) (st : State) (p : ℕ) → IsSound n st → IsSound n (claim_step st p).state
unfolding claim_step
claim_sound n st p h =
    cond_both (has_work (pass_at st p)) _ _ (λ (next : Step). IsSound n next.state) (λ _. h) (λ _. claimed_sound n st p (first_of (offers st)) (first_all (λ (offer : Offer). offer.level < length st.levels) (offers st) (offers_there st)) h)

-- ---- a job that is given back
finished_sound : (n : ℕ) (st : State) (p : ℕ) (job : JobNote) → IsSound n st → IsSound n (finished_job st p job).state
unfolding finished_job finished_level
finished_sound n st p job h =
    let free : IsSound n (with_pass st p Free) = pass_put n st p Free tt h in
    cond_both (job.plan == (level_at st job.level).plan) _ _ (λ (next : Step). IsSound n next.state) (λ _. level_put n (with_pass st p Free) job.level (finished_level (pieces_at st job.level) (level_at st job.level) job.piece) (λ inside. let sound : IsSoundLevel n (window_at st job.level) (level_at st job.level) = h.levels job.level inside in record { filled = sound.filled; plan = sound.plan }) free) (λ _. free)

given_back_sound : (n : ℕ) (st : State) (p : ℕ) (job : Option JobNote) → IsSound n st → IsSound n (given_back st p job).state
given_back_sound n st p None h = h
given_back_sound n st p (Some job) h = finished_sound n st p job h

-- ---- a publication
grown_sound : (n : ℕ) (st : State) (level : ℕ) (strip : Region) → level < length st.levels → IsGrown (filled_at st level) (window_at st level) strip → IsSound n st → IsSound n (grown st level strip).state
grown_sound n st level strip there even h =
    let sound : IsSoundLevel n (window_at st level) (level_at st level) = h.levels level there in
    level_put n st level (grown_level (level_at st level) strip) (λ _. record { filled = inr even; plan = sound.plan }) h

published_sound : (n : ℕ) (st : State) (level : ℕ) (strip : Option Region) → level < length st.levels → IfSome strip (IsGrown (filled_at st level) (window_at st level)) → IsSound n st → IsSound n (published st level strip).state
published_sound n st level None there even h = h
published_sound n st level (Some strip) there even h =
    cond_both (length (unfinished_pieces st level) == 0) _ _ (λ (next : Step). IsSound n next.state) (λ _. grown_sound n st level strip there even h) (λ _. h)

-- what is true of the first strip of a level's window is true of its current strip
strip_at_by : (P : Region → Type 0) (st : State) (level : ℕ) → IfSome (current_strip (filled_at st level) (window_at st level)) P → IfSome (strip_at st level) P
unfolding strip_at
strip_at_by P st level h =
    cond_both (is_used st level) (current_strip (filled_at st level) (window_at st level)) None (λ (strip : Option Region). IfSome strip P) (λ e. h) (λ e. tt)

-- the current strip of a level of a sound state lies in its window
pub strip_there : SoundStrips
strip_there n st level there h =
    strip_at_by (IsInside (window_at st level)) st level (strip_inside (filled_at st level) (window_at st level) (part_filled (window_at st level) (filled_at st level) (h.levels level there).filled) (window_inside st.k level st.x st.y))

grown_there : EvenWindows → (n : ℕ) (st : State) (level : ℕ) → level < length st.levels → IsSound n st → IfSome (strip_at st level) (IsGrown (filled_at st level) (window_at st level))
grown_there law n st level there h =
    strip_at_by (IsGrown (filled_at st level) (window_at st level)) st level (strip_grown (filled_at st level) (window_at st level) (h.levels level there).filled (window_inside st.k level st.x st.y) (even_window law st level h.size))

-- ---- a frame's beginning and its end
-- the filled regions of a sound state lie near the mosaic's corner
pub filled_near : FilledAreNear
filled_near n st h =
    All-map (IsWithin (2 ^ 24)) (λ (level : Level). level.filled) st.levels (λ level d inside. let sound : IsSoundLevel n (window_at st level) (level_at st level) = h.levels level inside in let near : IsWithin (2 ^ 24) (filled_at st level) = part_near (2 ^ 24) (window_at st level) (filled_at st level) (omega arith) (window_within st.k level st.x st.y h.size h.viewer.column h.viewer.row) sound.filled in subst (λ (other : Level). IsWithin (2 ^ 24) other.filled) (get_or_default st.levels level empty_level d inside) near)

regions_many : (st : State) → length (filled_regions st) ≡ length st.levels
regions_many st = length-map st.levels (λ (level : Level). level.filled)

region_at : (st : State) (i : ℕ) → i < length st.levels → get_or (filled_regions st) i empty_region ≡ filled_at st i
region_at st i inside = get_or-map (λ (level : Level). level.filled) st.levels i empty_level empty_region inside

pub frame_sound : EvenActives → SoundFrames
frame_sound law n st h = record {
  many = actives_many st.k (finest_at st) (filled_regions st) ∙ regions_many st;
  shown = λ level inside. record {
    x = st.x;
    y = st.y;
    column = h.viewer.column;
    row = h.viewer.row;
    part = actives_parts law (λ (i : ℕ). window_at st i) st.k (finest_at st) (filled_regions st) (λ i here. let there : i < length st.levels = subst (λ (m : ℕ). i < m) (regions_many st) here in subst (IsPartOf (window_at st i)) (sym (region_at st i there)) (h.levels i there).filled) level (subst (λ (m : ℕ). level < m) (sym (regions_many st)) inside);
  };
}

-- the active regions of a sound frame lie near the mosaic's corner
pub frame_near : ActivesAreNear
frame_near k count frame size h =
    All-from_get_or (IsWithin (2 ^ 24)) frame.actives empty_region (λ i inside. let shown : IsShown k i (get_or frame.actives i empty_region) = h.shown i (subst (λ (m : ℕ). i < m) h.many inside) in part_near (2 ^ 24) (window k i shown.x shown.y) (get_or frame.actives i empty_region) (omega arith) (window_within k i shown.x shown.y size shown.column shown.row) shown.part)

begun_sound : EvenActives → (n : ℕ) (st : State) (p : ℕ) (held : Option LevelTile) → IsSound n st → IsSound (n + 1) (frame_begun st p held).state
begun_sound law n st p (Some held) h = more n (n + 1) st (omega arith) h
begun_sound law n st p None h =
    let rest : IsSound (n + 1) st = more n (n + 1) st (omega arith) h in
    pass_put (n + 1) (record st { begun = st.begun + 1 }) p (Draws (next_frame st)) (frame_sound law n st h) (record {
      size = rest.size;
      many = rest.many;
      passes = rest.passes;
      viewer = rest.viewer;
      levels = rest.levels;
      begun = omega (arith, h.begun);
      parts = rest.parts;
    })

begin_sound : EvenActives → (n : ℕ) (st : State) (p : ℕ) → IsSound n st → IsSound (n + 1) (begin_step st p).state
unfolding begin_step
begin_sound law n st p h =
    cond_both (has_work (pass_at st p)) _ _ (λ (next : Step). IsSound (n + 1) next.state) (λ _. more n (n + 1) st (omega arith) h) (λ _. begun_sound law n st p (first_of (held_under st (actives_at st))) h)

ended_sound : (n : ℕ) (st : State) (p : ℕ) (frame : Option OpenFrame) → IsSound n st → IsSound n (ended st p frame).state
ended_sound n st p None h = h
ended_sound n st p (Some frame) h = pass_put n st p Free tt h

-- ---- any event
pub step_sound : EvenWindows → EvenActives → SoundSteps
unfolding finish_step publish_step end_step
step_sound windows actives n st p (Move x y a) taken h = move_sound windows n st x y a taken h
step_sound windows actives n st p Claim taken h = more n (n + 1) (claim_step st p).state (omega arith) (claim_sound n st p h)
step_sound windows actives n st p Finish taken h =
    more n (n + 1) (finish_step st p).state (omega arith) (given_back_sound n st p (job_of (pass_at st p)) h)
step_sound windows actives n st p (Publish level) taken h =
    more n (n + 1) (publish_step st level).state (omega arith) (published_sound n st level (strip_at st level) taken (grown_there windows n st level taken h) h)
step_sound windows actives n st p Begin taken h = begin_sound actives n st p h
step_sound windows actives n st p End taken h =
    more n (n + 1) (end_step st p).state (omega arith) (ended_sound n st p (frame_of (pass_at st p)) h)
