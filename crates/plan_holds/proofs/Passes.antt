-- The events that change one pass and no level: a claim, a stale job's return, a frame's beginning and its end.
use Rattle.std.proofs.Common.{◌≡◌, ℕ, ◌+◌, ◌-◌, ◌<◌, ◌≤◌, Bool, true, false, cond, not, ◌&&◌, List, [], map, length, get_or, set, Option, Some, None, is_some, refl, ap, sym, ◌∙◌, subst, inl, inr, ◌⊎◌, arith}
use Rattle.std.proofs.lemmas.Bool.{cases_Bool, cases_lt, cond_both, and_parts, not-true, true≢false, false_from_ne_true}
use Rattle.std.specs.List.{filter, range_with_len}
use mathlib.Core.Path.{ap₂}
use Rattle.clip_regions.specs.declared.region.Region.{Region}
use Rattle.clip_regions.specs.Regions.{empty_region}
use Rattle.plan_model.specs.Strips.{first_of, pieces}
use Rattle.plan_model.specs.States.{State, OpenFrame, Pass, level_at, pass_at, with_pass, from_coarsest, used_from_coarsest, finest_at, is_used, job_of, frame_of, has_work}
use Rattle.plan_model.specs.Tiles.{tiles, meets_tile, tiles_met, is_held, is_pinned}
use Rattle.plan_model.specs.Claims.{Offer, strip_at, strip_pieces, pieces_at, is_finished, held_tiles, held_needs, is_claimable, is_offered, offers_of, offers}
use Rattle.plan_model.specs.Steps.{Step, LevelTile, claimed, claimed_job, claim_step, held_under, actives_at, next_frame, frame_begun, begin_step, ended, end_step}
use Rattle.plan_model.specs.declared.tiles.TileId.{TileId}
use Rattle.plan_model.specs.declared.tiles.Piece.{Piece}
use Rattle.plan_model.specs.declared.events.JobNote.{JobNote}
use Rattle.plan_model.specs.declared.events.Work.TheVariants.{Free, Fills, Draws}
use Rattle.plan_holds.specs.Kept.{HasJob, HasFrame, active_in}
use Rattle.plan_holds.proofs.Members.{Among, passed, passing, first_among, none_among, mapped, map_of, flat, flat_of, ranged, ranged_of, reversed, reversed_of, set_read, set_past}
use Rattle.plan_holds.proofs.Places.{Known, tile_there}
use Rattle.plan_holds.proofs.Parts.{LevelNow, KeepsLevel, KeepsJob, tile, claimed_job as new_job}
use Rattle.plan_holds.proofs.Tiles.{is_held_by, is_pinned_by}
use Rattle.plan_holds.proofs.Core.{now, Core}

-- ---- what a pass has after another pass, or it itself, got something else
pub job_after : (st : State) (p q : ℕ) (w : Pass) (job : JobNote) → p < length st.passes → HasJob (with_pass st p w) q job → ((q ≡ p) × (job_of w ≡ Some job)) ⊎ ((q ≡ p → ⊥) × HasJob st q job)
job_after st p q w job h e =
    elim (set_read st.passes p q w Free (pass_at (with_pass st p w) q) h refl) [
      | inl same ↦ inl (same.0, ap job_of same.1 ∙ e)
      | inr other ↦ inr (other.0, ap job_of other.1 ∙ e)
    ]

pub frame_after : (st : State) (p q : ℕ) (w : Pass) (frame : OpenFrame) → p < length st.passes → HasFrame (with_pass st p w) q frame → ((q ≡ p) × (frame_of w ≡ Some frame)) ⊎ ((q ≡ p → ⊥) × HasFrame st q frame)
frame_after st p q w frame h e =
    elim (set_read st.passes p q w Free (pass_at (with_pass st p w) q) h refl) [
      | inl same ↦ inl (same.0, ap frame_of same.1 ∙ e)
      | inr other ↦ inr (other.0, ap frame_of other.1 ∙ e)
    ]

same_now : (st : State) (passes : List Pass) (begun level : ℕ) → now (record st { passes = passes; begun = begun }) level ≡ now st level
unfolding strip_at is_used
same_now st passes begun level = refl

keeps_level_as : (st : State) (passes : List Pass) (begun level : ℕ) → KeepsLevel st.k (now st level) → KeepsLevel st.k (now (record st { passes = passes; begun = begun }) level)
keeps_level_as st passes begun level h = subst (KeepsLevel st.k) (sym (same_now st passes begun level)) h

keeps_job_as : (st : State) (passes : List Pass) (begun : ℕ) (job : JobNote) → KeepsJob st.k (now st job.level) job → KeepsJob st.k (now (record st { passes = passes; begun = begun }) job.level) job
keeps_job_as st passes begun job h =
    subst (λ (v : LevelNow). KeepsJob st.k v job) (sym (same_now st passes begun job.level)) h

-- ---- a pass becomes free
pub none_some : (P : Type 0) {X : Type 0} (x : X) → None ≡ Some x → P
none_some P x e = cc

pub freed_job : (st : State) (p q : ℕ) (job : JobNote) → p < length st.passes → HasJob (with_pass st p Free) q job → (q ≡ p → ⊥) × HasJob st q job
freed_job st p q job h e =
    elim (job_after st p q Free job h e) [
      | inl same ↦ none_some _ job same.1
      | inr other ↦ other
    ]

pub freed_frame : (st : State) (p q : ℕ) (frame : OpenFrame) → p < length st.passes → HasFrame (with_pass st p Free) q frame → (q ≡ p → ⊥) × HasFrame st q frame
freed_frame st p q frame h e =
    elim (frame_after st p q Free frame h e) [
      | inl same ↦ none_some _ frame same.1
      | inr other ↦ other
    ]

freed_there : (st : State) (p : ℕ) → p < length st.passes → Core st → Core (with_pass st p Free)
freed_there st p h core = record {
  size = core.size;
  levels = λ level l. keeps_level_as st (set st.passes p Free) st.begun level (core.levels level l);
  there = λ q job g. core.there q job (freed_job st p q job h g).1;
  jobs = λ q job g. keeps_job_as st (set st.passes p Free) st.begun job (core.jobs q job (freed_job st p q job h g).1);
  once = λ q r a b g f l e. core.once q r a b (freed_job st p q a h g).1 (freed_job st p r b h f).1 l e;
  unpinned = λ q r job frame g f. core.unpinned q r job frame (freed_job st p q job h g).1 (freed_frame st p r frame h f).1;
  number = λ q frame g. core.number q frame (freed_frame st p q frame h g).1;
  one_frame = λ q r one other g f e. core.one_frame q r one other (freed_frame st p q one h g).1 (freed_frame st p r other h f).1 e;
}

-- a pass that isn't there stays away
pub absent : (st : State) (p : ℕ) (w : Pass) → length st.passes ≤ p → with_pass st p w ≡ st
absent st p w h = ap (λ (passes : List Pass). record st { passes = passes }) (set_past st.passes p w h)

-- where what holds is kept for a pass that is there, it is kept for any
for_any : (st : State) (p : ℕ) (w : Pass) → Core st → (p < length st.passes → Core (with_pass st p w)) → Core (with_pass st p w)
for_any st p w core there =
    elim (cases_lt p (length st.passes)) [
      | inl h ↦ there h
      | inr past ↦ subst Core (sym (absent st p w past)) core
    ]

pub freed : (st : State) (p : ℕ) → Core st → Core (with_pass st p Free)
freed st p core = for_any st p Free core (λ h. freed_there st p h core)

-- ---- a claim
-- what is offered is an unfinished piece of a current strip, and its tile is neither held nor pinned
record IsOffered (st : State) (offer : Offer) : Type 0 where
  there : offer.level < length st.levels
  current : Among offer.piece (pieces_at st offer.level)
  new : is_finished (level_at st offer.level).finished offer.piece ≡ false
  unheld : is_held st offer.level (tile st.k offer.piece) ≡ false
  unpinned : is_pinned st offer.level (tile st.k offer.piece) ≡ false

record IsFree (st : State) (level : ℕ) (q : Piece) : Type 0 where
  new : is_finished (level_at st level).finished q ≡ false
  unheld : is_held st level (tile st.k q) ≡ false
  unpinned : is_pinned st level (tile st.k q) ≡ false

claimable : (st : State) (level : ℕ) (q : Piece) → is_claimable st level q ≡ true → IsFree st level q
unfolding is_claimable
claimable st level q t =
    let halves : ((not (is_finished (level_at st level).finished q) && not (is_held st level (tile st.k q))) ≡ true) × ((not (is_pinned st level (tile st.k q)) && not (is_some (first_of (held_needs st level q)))) ≡ true) = and_parts (not (is_finished (level_at st level).finished q) && not (is_held st level (tile st.k q))) (not (is_pinned st level (tile st.k q)) && not (is_some (first_of (held_needs st level q)))) t in
    let first : (not (is_finished (level_at st level).finished q) ≡ true) × (not (is_held st level (tile st.k q)) ≡ true) = and_parts (not (is_finished (level_at st level).finished q)) (not (is_held st level (tile st.k q))) halves.0 in
    let second : (not (is_pinned st level (tile st.k q)) ≡ true) × (not (is_some (first_of (held_needs st level q))) ≡ true) = and_parts (not (is_pinned st level (tile st.k q))) (not (is_some (first_of (held_needs st level q)))) halves.1 in
    record { new = not-true (is_finished (level_at st level).finished q) first.0; unheld = not-true (is_held st level (tile st.k q)) first.1; unpinned = not-true (is_pinned st level (tile st.k q)) second.0 }

abbrev level_tile : ℕ → TileId → LevelTile
level_tile level t = record { level = level; tile = t }

abbrev pub offer_at : ℕ → Piece → Offer
offer_at level q = record { level = level; piece = q }

offered_piece : (st : State) (level : ℕ) (strip : Region) (offer : Offer) → Among offer (offers_of st level (Some strip)) → (q : Piece) × Among q (pieces strip) × (is_claimable st level q ≡ true) × (offer_at level q ≡ offer)
offered_piece st level strip offer h =
    elim (cases_Bool (is_offered st level strip)) [
      | inl t ↦
          let listed : Among offer (map (offer_at level) (filter (is_claimable st level) (pieces strip))) = subst (λ (b : Bool). Among offer (cond b (map (offer_at level) (filter (is_claimable st level) (pieces strip))) [])) t h in
          let q : (q : Piece) × Among q (filter (is_claimable st level) (pieces strip)) × (offer_at level q ≡ offer) = map_of (offer_at level) (filter (is_claimable st level) (pieces strip)) offer listed in
          let both : Among q.0 (pieces strip) × (is_claimable st level q.0 ≡ true) = passed (is_claimable st level) (pieces strip) q.0 q.1 in
          (q.0, both.0, both.1, q.2)
      | inr f ↦ absurd (subst (λ (b : Bool). Among offer (cond b (map (offer_at level) (filter (is_claimable st level) (pieces strip))) [])) f h)
    ]

offered_of : (st : State) (level : ℕ) (strip : Option Region) (offer : Offer) → level < length st.levels → strip ≡ strip_at st level → Among offer (offers_of st level strip) → IsOffered st offer
offered_of st level None offer l e h = absurd h
offered_of st level (Some strip) offer l e h =
    let q : (q : Piece) × Among q (pieces strip) × (is_claimable st level q ≡ true) × (offer_at level q ≡ offer) = offered_piece st level strip offer h in
    let free : IsFree st level q.0 = claimable st level q.0 q.2 in
    subst (IsOffered st) q.3 (record { there = l; current = subst (λ (o : Option Region). Among q.0 (strip_pieces o)) e q.1; new = free.new; unheld = free.unheld; unpinned = free.unpinned })

pub used_below : (st : State) (level : ℕ) → Among level (used_from_coarsest st) → level < length st.levels
used_below st level h =
    let both : (finest_at st ≤ level) × (level < finest_at st + (length st.levels - finest_at st)) = ranged_of (finest_at st) (length st.levels - finest_at st) level (reversed_of (range_with_len (finest_at st) (length st.levels - finest_at st)) level h) in
    let low : finest_at st ≤ level = both.0 in
    let high : level < finest_at st + (length st.levels - finest_at st) = both.1 in
    omega arith

offered : (st : State) (offer : Offer) → first_of (offers st) ≡ Some offer → IsOffered st offer
unfolding offers
offered st offer e =
    let level : (level : ℕ) × Among level (used_from_coarsest st) × Among offer (offers_of st level (strip_at st level)) = flat_of (λ level. offers_of st level (strip_at st level)) (used_from_coarsest st) offer (first_among (offers st) offer e) in
    offered_of st level.0 (strip_at st level.0) offer (used_below st level.0 level.1) refl level.2

pub some_same : {X : Type 0} {x y : X} → Some x ≡ Some y → x ≡ y
some_same e = cc

-- the pass has the claimed job, and the other passes what they had
claimed_or_old : (st : State) (p q : ℕ) (job other : JobNote) → p < length st.passes → HasJob (with_pass st p (Fills job)) q other → ((q ≡ p) × (job ≡ other)) ⊎ ((q ≡ p → ⊥) × HasJob st q other)
claimed_or_old st p q job other h e =
    elim (job_after st p q (Fills job) other h e) [
      | inl same ↦ inl (same.0, some_same same.1)
      | inr old ↦ inr old
    ]

old_frame : (st : State) (p q : ℕ) (job : JobNote) (frame : OpenFrame) → p < length st.passes → HasFrame (with_pass st p (Fills job)) q frame → HasFrame st q frame
old_frame st p q job frame h e =
    elim (frame_after st p q (Fills job) frame h e) [
      | inl same ↦ none_some _ frame same.1
      | inr old ↦ old.1
    ]

module _ (st : State) (offer : Offer) (o : IsOffered st offer) where
  not_held : (q : ℕ) (b : JobNote) → HasJob st q b → b.level ≡ offer.level → tile st.k b.piece ≡ tile st.k offer.piece → ⊥
  not_held q b h l e =
      true≢false (sym (sym (ap₂ (is_held st) l e) ∙ is_held_by st q b h) ∙ o.unheld)

  not_pinned : (q : ℕ) (frame : OpenFrame) → HasFrame st q frame → meets_tile st.k (active_in frame offer.level) (tile st.k offer.piece) ≡ false
  not_pinned q frame h =
      false_from_ne_true (meets_tile st.k (active_in frame offer.level) (tile st.k offer.piece)) (λ t. true≢false (sym (is_pinned_by st q offer.level (tile st.k offer.piece) frame h t) ∙ o.unpinned))

-- the state after the claim
abbrev after_claim : State → ℕ → Offer → State
after_claim st p offer = with_pass st p (Fills (claimed_job st offer))

module _ (known : Known) (st : State) (p : ℕ) (offer : Offer) (h : p < length st.passes) (core : Core st) (o : IsOffered st offer) where
  claimed_there : (q : ℕ) (job : JobNote) → HasJob (after_claim st p offer) q job → job.level < length st.levels
  claimed_there q job e =
      elim (claimed_or_old st p q (claimed_job st offer) job h e) [
        | inl new ↦ subst (λ (j : JobNote). j.level < length st.levels) new.1 o.there
        | inr old ↦ core.there q job old.1
      ]

  claimed_keeps : (q : ℕ) (job : JobNote) → HasJob (after_claim st p offer) q job → KeepsJob st.k (now st job.level) job
  claimed_keeps q job e =
      elim (claimed_or_old st p q (claimed_job st offer) job h e) [
        | inl new ↦ subst (λ (j : JobNote). KeepsJob st.k (now st j.level) j) new.1 (new_job known st.k offer.level (now st offer.level) offer.piece (core.levels offer.level o.there) o.current o.new)
        | inr old ↦ core.jobs q job old.1
      ]

  claimed_once : (q r : ℕ) (a b : JobNote) → HasJob (after_claim st p offer) q a → HasJob (after_claim st p offer) r b → a.level ≡ b.level → tile st.k a.piece ≡ tile st.k b.piece → q ≡ r
  claimed_once q r a b f g l e =
      elim (claimed_or_old st p q (claimed_job st offer) a h f) [
        | inl new ↦ elim (claimed_or_old st p r (claimed_job st offer) b h g) [
          | inl newer ↦ new.0 ∙ sym newer.0
          | inr old ↦ absurd (not_held st offer o r b old.1 (sym l ∙ sym (ap (λ (j : JobNote). j.level) new.1)) (sym e ∙ sym (ap (λ (j : JobNote). tile st.k j.piece) new.1)))
        ]
        | inr older ↦ elim (claimed_or_old st p r (claimed_job st offer) b h g) [
          | inl new ↦ absurd (not_held st offer o q a older.1 (l ∙ sym (ap (λ (j : JobNote). j.level) new.1)) (e ∙ sym (ap (λ (j : JobNote). tile st.k j.piece) new.1)))
          | inr old ↦ core.once q r a b older.1 old.1 l e
        ]
      ]

  claimed_unpinned : (q r : ℕ) (job : JobNote) (frame : OpenFrame) → HasJob (after_claim st p offer) q job → HasFrame (after_claim st p offer) r frame → meets_tile st.k (active_in frame job.level) (tile st.k job.piece) ≡ false
  claimed_unpinned q r job frame e f =
      elim (claimed_or_old st p q (claimed_job st offer) job h e) [
        | inl new ↦ subst (λ (j : JobNote). meets_tile st.k (active_in frame j.level) (tile st.k j.piece) ≡ false) new.1 (not_pinned st offer o r frame (old_frame st p r (claimed_job st offer) frame h f))
        | inr old ↦ core.unpinned q r job frame old.1 (old_frame st p r (claimed_job st offer) frame h f)
      ]

  claimed_core : Core (after_claim st p offer)
  claimed_core = record {
    size = core.size;
    levels = λ level l. keeps_level_as st (set st.passes p (Fills (claimed_job st offer))) st.begun level (core.levels level l);
    there = claimed_there;
    jobs = λ q job e. keeps_job_as st (set st.passes p (Fills (claimed_job st offer))) st.begun job (claimed_keeps q job e);
    once = claimed_once;
    unpinned = claimed_unpinned;
    number = λ q frame e. core.number q frame (old_frame st p q (claimed_job st offer) frame h e);
    one_frame = λ q r one other e f n. core.one_frame q r one other (old_frame st p q (claimed_job st offer) one h e) (old_frame st p r (claimed_job st offer) other h f) n;
  }

claimed_of : Known → (st : State) (p : ℕ) (offer : Option Offer) → Core st → first_of (offers st) ≡ offer → Core (claimed st p offer).state
claimed_of known st p None core e = core
claimed_of known st p (Some offer) core e =
    for_any st p (Fills (claimed_job st offer)) core (λ h. claimed_core known st p offer h core (offered st offer e))

pub claim_core : Known → (st : State) (p : ℕ) → Core st → Core (claim_step st p).state
unfolding claim_step
claim_core known st p core =
    cond_both (has_work (pass_at st p)) _ _ (λ (s : Step). Core s.state) (λ _. core) (λ _. claimed_of known st p (first_of (offers st)) core refl)

-- ---- a frame's beginning
-- no tile that an active region meets is held
unheld_tile : (st : State) (level : ℕ) (t : TileId) (active : List Region) → first_of (held_under st active) ≡ None → level < length st.levels → Among t (tiles st.k) → meets_tile st.k (get_or active level empty_region) t ≡ true → is_held st level t ≡ true → ⊥
unfolding held_under held_tiles tiles_met
unheld_tile st level t active e l there m held =
    none_among (held_under st active) (level_tile level t) e (flat (λ n. map (λ u. level_tile n u) (held_tiles st n (get_or active n empty_region))) (from_coarsest st) level (level_tile level t) (reversed (range_with_len 0 (length st.levels)) level (ranged 0 (length st.levels) level (omega arith) (omega arith))) (mapped (level_tile level) (held_tiles st level (get_or active level empty_region)) t (passing (is_held st level) (tiles_met st.k (get_or active level empty_region)) t (passing (meets_tile st.k (get_or active level empty_region)) (tiles st.k) t there m) held)))

-- the state after the beginning
abbrev after_begin : State → ℕ → State
after_begin st p = with_pass (record st { begun = st.begun + 1 }) p (Draws (next_frame st))

old_job : (st : State) (p q : ℕ) (job : JobNote) → p < length st.passes → HasJob (after_begin st p) q job → HasJob st q job
old_job st p q job h e =
    elim (job_after (record st { begun = st.begun + 1 }) p q (Draws (next_frame st)) job h e) [
      | inl same ↦ none_some _ job same.1
      | inr old ↦ old.1
    ]

begun_or_old : (st : State) (p q : ℕ) (frame : OpenFrame) → p < length st.passes → HasFrame (after_begin st p) q frame → ((q ≡ p) × (next_frame st ≡ frame)) ⊎ ((q ≡ p → ⊥) × HasFrame st q frame)
begun_or_old st p q frame h e =
    elim (frame_after (record st { begun = st.begun + 1 }) p q (Draws (next_frame st)) frame h e) [
      | inl same ↦ inl (same.0, some_same same.1)
      | inr old ↦ inr old
    ]

module _ (st : State) (p : ℕ) (h : p < length st.passes) (core : Core st) (none : first_of (held_under st (actives_at st)) ≡ None) where
  begun_unpinned : (q r : ℕ) (job : JobNote) (frame : OpenFrame) → HasJob (after_begin st p) q job → HasFrame (after_begin st p) r frame → meets_tile st.k (active_in frame job.level) (tile st.k job.piece) ≡ false
  begun_unpinned q r job frame e f =
      elim (begun_or_old st p r frame h f) [
        | inl new ↦ subst (λ (g : OpenFrame). meets_tile st.k (active_in g job.level) (tile st.k job.piece) ≡ false) new.1 (false_from_ne_true (meets_tile st.k (active_in (next_frame st) job.level) (tile st.k job.piece)) (λ t. unheld_tile st job.level (tile st.k job.piece) (actives_at st) none (core.there q job (old_job st p q job h e)) (tile_there st.k job.piece.bx job.piece.by core.size.low) t (is_held_by st q job (old_job st p q job h e))))
        | inr old ↦ core.unpinned q r job frame (old_job st p q job h e) old.1
      ]

  begun_number : (q : ℕ) (frame : OpenFrame) → HasFrame (after_begin st p) q frame → frame.number < st.begun + 1
  begun_number q frame e =
      elim (begun_or_old st p q frame h e) [
        | inl new ↦ let same : st.begun ≡ frame.number = ap (λ (g : OpenFrame). g.number) new.1 in omega arith
        | inr old ↦ let below : frame.number < st.begun = core.number q frame old.1 in omega arith
      ]

  begun_one : (q r : ℕ) (one other : OpenFrame) → HasFrame (after_begin st p) q one → HasFrame (after_begin st p) r other → one.number ≡ other.number → q ≡ r
  begun_one q r one other e f n =
      elim (begun_or_old st p q one h e) [
        | inl new ↦ elim (begun_or_old st p r other h f) [
          | inl newer ↦ new.0 ∙ sym newer.0
          | inr old ↦
              let same : st.begun ≡ one.number = ap (λ (g : OpenFrame). g.number) new.1 in
              let below : other.number < st.begun = core.number r other old.1 in
              absurd (omega arith)
        ]
        | inr older ↦ elim (begun_or_old st p r other h f) [
          | inl new ↦
              let same : st.begun ≡ other.number = ap (λ (g : OpenFrame). g.number) new.1 in
              let below : one.number < st.begun = core.number q one older.1 in
              absurd (omega arith)
          | inr old ↦ core.one_frame q r one other older.1 old.1 n
        ]
      ]

  begun_core : Core (after_begin st p)
  begun_core = record {
    size = core.size;
    levels = λ level l. keeps_level_as st (set st.passes p (Draws (next_frame st))) (st.begun + 1) level (core.levels level l);
    there = λ q job e. core.there q job (old_job st p q job h e);
    jobs = λ q job e. keeps_job_as st (set st.passes p (Draws (next_frame st))) (st.begun + 1) job (core.jobs q job (old_job st p q job h e));
    once = λ q r a b e f l t. core.once q r a b (old_job st p q a h e) (old_job st p r b h f) l t;
    unpinned = begun_unpinned;
    number = begun_number;
    one_frame = begun_one;
  }

-- a frame of a pass that isn't there is counted all the same
more_begun : (st : State) → Core st → Core (record st { begun = st.begun + 1 })
more_begun st core = record {
  size = core.size;
  levels = λ level l. keeps_level_as st st.passes (st.begun + 1) level (core.levels level l);
  there = core.there;
  jobs = λ q job e. keeps_job_as st st.passes (st.begun + 1) job (core.jobs q job e);
  once = core.once;
  unpinned = core.unpinned;
  number = λ q frame e. let below : frame.number < st.begun = core.number q frame e in omega arith;
  one_frame = core.one_frame;
}

begun_of : (st : State) (p : ℕ) (held : Option LevelTile) → Core st → first_of (held_under st (actives_at st)) ≡ held → Core (frame_begun st p held).state
begun_of st p None core e =
    for_any (record st { begun = st.begun + 1 }) p (Draws (next_frame st)) (more_begun st core) (λ h. begun_core st p h core e)
begun_of st p (Some held) core e = core

pub begin_core : (st : State) (p : ℕ) → Core st → Core (begin_step st p).state
unfolding begin_step
begin_core st p core =
    cond_both (has_work (pass_at st p)) _ _ (λ (s : Step). Core s.state) (λ _. core) (λ _. begun_of st p (first_of (held_under st (actives_at st))) core refl)

-- ---- a frame's end
ended_of : (st : State) (p : ℕ) (frame : Option OpenFrame) → Core st → Core (ended st p frame).state
ended_of st p None core = core
ended_of st p (Some frame) core = freed st p core

pub end_core : (st : State) (p : ℕ) → Core st → Core (end_step st p).state
unfolding end_step
end_core st p core = ended_of st p (frame_of (pass_at st p)) core
