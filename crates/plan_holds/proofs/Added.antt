-- What an event adds: the cells that are done after it, and the frames that are open.
use Rattle.std.proofs.Common.{◌≡◌, ℕ, zero, suc, ◌+◌, ◌<◌, ◌≤◌, true, ◌==◌, ◌||◌, ℤ, List, [], ◌∷◌, map, length, get_or, Option, Some, None, refl, ap, sym, ◌∙◌, subst, inl, inr, ◌⊎◌, arith}
use Rattle.std.proofs.lemmas.Bool.{cases_eq, cases_lt, cond_both, eqb-true}
use Rattle.std.proofs.lemmas.List.{get_or-set_same, get_or-set_other, get_or_past}
use Rattle.std.specs.List.{Any, Contains}
use Rattle.clip_regions.specs.declared.region.Region.{Region}
use Rattle.clip_regions.specs.Regions.{contains, empty_region}
use Rattle.plan_model.specs.Blocks.{tile_of_cell, same_block}
use Rattle.plan_model.specs.Window.{window}
use Rattle.plan_model.specs.Strips.{first_of}
use Rattle.plan_model.specs.States.{State, Level, OpenFrame, Pass, empty_level, level_at, pass_at, with_level, with_pass, filled_at, window_at, filled_regions, finest_at, has_work, job_of, frame_of}
use Rattle.plan_model.specs.Tiles.{IsHeld, IsPinned}
use Rattle.plan_model.specs.Claims.{Offer, offers, strip_at, pieces_at, unfinished_pieces, is_finished}
use Rattle.plan_model.specs.Steps.{Step, LevelTile, seen_from, moved_level, moved_levels, move_step, claimed, claimed_job, claim_step, finished_level, kept_job, stale_job, finished_job, given_back, finish_step, grown_level, grown, published, publish_step, held_under, actives_at, next_frame, frame_begun, begin_step, ended, end_step}
use Rattle.plan_model.specs.Laws.{AllIn, ActivesAreFilled}
use Rattle.plan_laws.specs.Tiles.{TilesMetByCells}
use Rattle.plan_model.specs.declared.tiles.Piece.{Piece}
use Rattle.plan_model.specs.declared.events.JobNote.{JobNote}
use Rattle.plan_model.specs.declared.events.Work.TheVariants.{Free, Fills, Draws}
use Rattle.plan_model.specs.declared.events.Event.{Event}
use Rattle.plan_model.specs.declared.events.Event.TheVariants.{Move, Claim, Finish, Publish, Begin, End}
use Rattle.plan_holds.specs.Kept.{HasJob, HasFrame, active_in}
use Rattle.plan_holds.specs.Changes.{AddsCells, StepsFillCells, IsBegun, StepsBeginFrames, DrawnCellsAtHome}
use Rattle.plan_holds.proofs.Members.{Among, among_at, contained, passed}
use Rattle.plan_holds.proofs.Cells.{no_cell_of_empty, held_in, met}
use Rattle.plan_holds.proofs.Places.{Known, meets, hull_cell}
use Rattle.plan_holds.proofs.Parts.{KeepsLevel, AreDone, current_one, current_piece, is_among, one_more, more_of, done_cell}
use Rattle.plan_holds.proofs.Tiles.{is_pinned_by}
use Rattle.plan_holds.proofs.Core.{now, Core, core_of}
use Rattle.plan_holds.proofs.Passes.{frame_after, none_some, some_same, absent as pass_absent}
use Rattle.plan_holds.proofs.Levels.{all_done, absent as level_absent}
use Rattle.plan_holds.proofs.Moves.{after_move, keeps, level_then, cut_level, level_moved, count_moved}

-- ---- cells that are drawn
pub drawn_cells : TilesMetByCells → DrawnCellsAtHome
drawn_cells law st p frame kept h level i j t =
    let large : 4 ≤ st.k = kept.size.low in
    let pinned : IsPinned st level (tile_of_cell st.k i j) = is_pinned_by st p level (tile_of_cell st.k i j) frame h (meets law st.k (active_in frame level) (tile_of_cell st.k i j) i j (omega arith) t refl) in
    (pinned, λ (held : IsHeld st level (tile_of_cell st.k i j)). kept.held level (tile_of_cell st.k i j) held pinned)

-- ---- frames that are open
-- a pass that gets no frame adds none
no_frame_more : (st : State) (p q : ℕ) (w : Pass) (frame : OpenFrame) → (frame_of w ≡ Some frame → ⊥) → HasFrame (with_pass st p w) q frame → HasFrame st q frame
no_frame_more st p q w frame none h =
    elim (cases_lt p (length st.passes)) [
      | inl there ↦ elim (frame_after st p q w frame there h) [
        | inl same ↦ absurd (none same.1)
        | inr old ↦ old.1
      ]
      | inr past ↦ subst (λ (s : State). HasFrame s q frame) (pass_absent st p w past) h
    ]

-- the state's frames are those that it had, or the event began one
abbrev AddsFrame : State → ℕ → Event → ℕ → OpenFrame → State → Type 0
AddsFrame st p event q frame after = HasFrame after q frame → HasFrame st q frame ⊎ IsBegun st p event q frame

module _ (st : State) (p : ℕ) (event : Event) (q : ℕ) (frame : OpenFrame) where
  claimed_frame : (offer : Option Offer) → AddsFrame st p event q frame (claimed st p offer).state
  claimed_frame None h = inl h
  claimed_frame (Some offer) h =
      inl (no_frame_more st p q (Fills (claimed_job st offer)) frame (λ (e : None ≡ Some frame). none_some _ frame e) h)

  freed_frame : AddsFrame st p event q frame (with_pass st p Free)
  freed_frame h = inl (no_frame_more st p q Free frame (λ (e : None ≡ Some frame). none_some _ frame e) h)

  finished_frame : (job : JobNote) → AddsFrame st p event q frame (finished_job st p job).state
  unfolding finished_job
  finished_frame job =
      cond_both (job.plan == (level_at st job.level).plan) (kept_job st p job) (stale_job st p job) (λ (s : Step). AddsFrame st p event q frame s.state) (λ _. freed_frame) (λ _. freed_frame)

  given_frame : (job : Option JobNote) → AddsFrame st p event q frame (given_back st p job).state
  given_frame None h = inl h
  given_frame (Some job) h = finished_frame job h

  published_frame : (l : ℕ) (strip : Option Region) → AddsFrame st p event q frame (published st l strip).state
  published_frame l None h = inl h
  published_frame l (Some strip) h =
      cond_both (length (unfinished_pieces st l) == 0) (grown st l strip) _ (λ (s : Step). AddsFrame st p event q frame s.state) (λ _. λ g. inl g) (λ _. λ g. inl g) h

  ended_frame : (open' : Option OpenFrame) → AddsFrame st p event q frame (ended st p open').state
  ended_frame None h = inl h
  ended_frame (Some other) h = freed_frame h

-- the active regions of a state lie in its filled regions
in_filled : (filled active : List Region) → AllIn filled active → (level : ℕ) (i j : ℤ) → contains (get_or active level empty_region) i j ≡ true → contains (get_or filled level empty_region) i j ≡ true
in_filled [] [] all level i j t = t
in_filled [] (a ∷ active) all level i j t = absurd all
in_filled (f ∷ filled) [] all level i j t = absurd (no_cell_of_empty i j t)
in_filled (f ∷ filled) (a ∷ active) all zero i j t = held_in f a i j all.0 t
in_filled (f ∷ filled) (a ∷ active) all (suc level) i j t = in_filled filled active all.1 level i j t

filled_is : (levels : List Level) (level : ℕ) → get_or (map (λ it. it.filled) levels) level empty_region ≡ (get_or levels level empty_level).filled
filled_is [] level = refl
filled_is (it ∷ levels) zero = refl
filled_is (it ∷ levels) (suc level) = filled_is levels level

drawn_filled : ActivesAreFilled → (st : State) (level : ℕ) (i j : ℤ) → contains (active_in (next_frame st) level) i j ≡ true → contains (filled_at st level) i j ≡ true
drawn_filled law st level i j t =
    subst (λ (r : Region). contains r i j ≡ true) (filled_is st.levels level) (in_filled (filled_regions st) (actives_at st) (law st.k (finest_at st) (filled_regions st)) level i j t)

begun_frame : ActivesAreFilled → (st : State) (p q : ℕ) (frame : OpenFrame) (held : Option LevelTile) → AddsFrame st p Begin q frame (frame_begun st p held).state
begun_frame law st p q frame (Some held) h = inl h
begun_frame law st p q frame None h =
    elim (cases_lt p (length st.passes)) [
      | inl there ↦ elim (frame_after (record st { begun = st.begun + 1 }) p q (Draws (next_frame st)) frame there h) [
        | inl new ↦ inr (record { asked = refl; same = new.0; next = sym (some_same new.1); filled = λ level i j t. drawn_filled law st level i j (subst (λ (f : OpenFrame). contains (active_in f level) i j ≡ true) (sym (some_same new.1)) t) })
        | inr old ↦ inl old.1
      ]
      | inr past ↦ inl (subst (λ (s : State). HasFrame s q frame) (pass_absent (record st { begun = st.begun + 1 }) p (Draws (next_frame st)) past) h)
    ]

pub frames_begun : ActivesAreFilled → StepsBeginFrames
unfolding move_step claim_step finish_step publish_step begin_step end_step
frames_begun law st p (Move x y a) q frame h = inl h
frames_begun law st p Claim q frame h =
    cond_both (has_work (pass_at st p)) _ _ (λ (s : Step). AddsFrame st p Claim q frame s.state) (λ _. λ g. inl g) (λ _. claimed_frame st p Claim q frame (first_of (offers st))) h
frames_begun law st p Finish q frame h = given_frame st p Finish q frame (job_of (pass_at st p)) h
frames_begun law st p (Publish level) q frame h =
    published_frame st p (Publish level) q frame level (strip_at st level) h
frames_begun law st p Begin q frame h =
    cond_both (has_work (pass_at st p)) _ _ (λ (s : Step). AddsFrame st p Begin q frame s.state) (λ _. λ g. inl g) (λ _. begun_frame law st p q frame (first_of (held_under st (actives_at st)))) h
frames_begun law st p End q frame h = ended_frame st p End q frame (frame_of (pass_at st p)) h

-- ---- cells that are done
-- a cell is filled on a level, or lies in one of its finished pieces
abbrev DoneIn : Level → ℤ → ℤ → Type 0
DoneIn it i j =
    (contains it.filled i j ≡ true) ⊎ Any (λ (piece : Piece). contains piece.cells i j ≡ true) it.finished

piece_any : (finished : List Piece) (q : Piece) (i j : ℤ) → Among q finished → contains q.cells i j ≡ true → Any (λ (piece : Piece). contains piece.cells i j ≡ true) finished
piece_any finished q i j h t =
    let at : Contains finished q = contained finished q h in
    (at.0, q, at.1, at.2, t)

any_piece : (finished : List Piece) (i j : ℤ) → Any (λ (piece : Piece). contains piece.cells i j ≡ true) finished → (q : Piece) × Among q finished × (contains q.cells i j ≡ true)
any_piece finished i j h = (h.1, among_at finished h.1 h.0 h.2 h.3, h.4)

none_done : (i j : ℤ) → DoneIn empty_level i j → ⊥
none_done i j (inl t) = no_cell_of_empty i j t
none_done i j (inr h) = (any_piece [] i j h).1

-- the cells that are done on a level of another state are new only on the level that changed
done_with : (st : State) (l : ℕ) (new : Level) (level : ℕ) (i j : ℤ) → DoneIn (level_at (with_level st l new) level) i j → ((level ≡ l) × (l < length st.levels) × DoneIn new i j) ⊎ DoneIn (level_at st level) i j
done_with st l new level i j h =
    elim (cases_eq level l) [
      | inr other ↦ inr (subst (λ (it : Level). DoneIn it i j) (get_or-set_other st.levels l level new empty_level other) h)
      | inl e ↦ elim (cases_lt l (length st.levels)) [
        | inl there ↦ inl (e, there, subst (λ (it : Level). DoneIn it i j) (ap (λ (n : ℕ). level_at (with_level st l new) n) e ∙ get_or-set_same st.levels l new empty_level there) h)
        | inr past ↦ inr (subst (λ (s : State). DoneIn (level_at s level) i j) (level_absent st l new past) h)
      ]
    ]

claimed_cells : (st : State) (p : ℕ) (offer : Option Offer) → AddsCells st p Claim (claimed st p offer).state
claimed_cells st p None level i j h = inl h
claimed_cells st p (Some offer) level i j h = inl h

-- the finished pieces of a level with one more are the earlier ones and the one that was given back
more_cell : Known → (st : State) (p : ℕ) (job : JobNote) (i j : ℤ) → Core st → HasJob st p job → job.plan ≡ (level_at st job.level).plan → DoneIn (finished_level (pieces_at st job.level) (level_at st job.level) job.piece) i j → DoneIn (level_at st job.level) i j ⊎ (contains job.piece.cells i j ≡ true)
unfolding finished_level
more_cell known st p job i j core has now' (inl t) = inl (inl t)
more_cell known st p job i j core has now' (inr h) =
    let q : (q : Piece) × Among q (one_more (now st job.level) job.piece).finished × (contains q.cells i j ≡ true) = any_piece (one_more (now st job.level) job.piece).finished i j h in
    let level : KeepsLevel st.k (now st job.level) = core.levels job.level (core.there p job has) in
    let listed : Among q.0 (pieces_at st job.level) = (passed (λ other. same_block other job.piece || is_finished (level_at st job.level).finished other) (pieces_at st job.level) q.0 q.1).0 in
    elim (more_of (now st job.level) job.piece q.0 q.1) [
      | inl new ↦ inr (subst (λ (piece : Piece). contains piece.cells i j ≡ true) (current_one known (strip_at st job.level) q.0 job.piece listed ((core.jobs p job has).fresh now').0 new) q.2)
      | inr old ↦
          let r : (r : Piece) × Among r (level_at st job.level).finished × (same_block q.0 r ≡ true) = is_among (level_at st job.level).finished q.0 old in
          let one : q.0 ≡ r.0 = current_one known (strip_at st job.level) q.0 r.0 listed (current_piece st.k (now st job.level) r.0 level r.1) r.2 in
          inl (inr (piece_any (level_at st job.level).finished r.0 i j r.1 (subst (λ (piece : Piece). contains piece.cells i j ≡ true) one q.2)))
    ]

kept_cells : Known → (st : State) (p : ℕ) (job : JobNote) → Core st → HasJob st p job → job.plan ≡ (level_at st job.level).plan → AddsCells st p Finish (kept_job st p job).state
kept_cells known st p job core has now' level i j h =
    elim (done_with (with_pass st p Free) job.level (finished_level (pieces_at st job.level) (level_at st job.level) job.piece) level i j h) [
      | inr old ↦ inl old
      | inl new ↦ elim (more_cell known st p job i j core has now' new.2) [
        | inl old ↦ inl (subst (λ (n : ℕ). DoneIn (level_at st n) i j) (sym new.0) old)
        | inr given ↦ inr (record { asked = refl; job = job; has = has; same = sym new.0; cell = given })
      ]
    ]

finished_cells : Known → (st : State) (p : ℕ) (job : JobNote) → Core st → HasJob st p job → AddsCells st p Finish (finished_job st p job).state
unfolding finished_job
finished_cells known st p job core has =
    cond_both (job.plan == (level_at st job.level).plan) (kept_job st p job) (stale_job st p job) (λ (s : Step). AddsCells st p Finish s.state) (λ e. kept_cells known st p job core has (eqb-true job.plan (level_at st job.level).plan e)) (λ _. λ level i j h. inl h)

given_cells : Known → (st : State) (p : ℕ) (job : Option JobNote) → Core st → job_of (pass_at st p) ≡ job → AddsCells st p Finish (given_back st p job).state
given_cells known st p None core e level i j h = inl h
given_cells known st p (Some job) core e level i j h = finished_cells known st p job core e level i j h

-- each cell of the grown region was filled, or lay in a finished piece
grown_cell : Known → (st : State) (l : ℕ) (s : Region) (i j : ℤ) → KeepsLevel st.k (now st l) → strip_at st l ≡ Some s → AreDone (now st l) s → DoneIn (grown_level (level_at st l) s) i j → DoneIn (level_at st l) i j
grown_cell known st l s i j level e done (inr h) = absurd (any_piece [] i j h).1
grown_cell known st l s i j level e done (inl t) =
    elim (hull_cell known (filled_at st l) (window_at st l) s i j level.inside (level.first s e) t) [
      | inl old ↦ inl old
      | inr new ↦
          let r : (r : Piece) × Among r (level_at st l).finished × (contains r.cells i j ≡ true) = done_cell known st.k (now st l) s i j level e done new in
          inr (piece_any (level_at st l).finished r.0 i j r.1 r.2)
    ]

grown_cells : Known → (st : State) (p l : ℕ) (s : Region) (event : Event) → Core st → strip_at st l ≡ Some s → AreDone (now st l) s → AddsCells st p event (grown st l s).state
grown_cells known st p l s event core e done level i j h =
    elim (done_with st l (grown_level (level_at st l) s) level i j h) [
      | inr old ↦ inl old
      | inl new ↦ inl (subst (λ (n : ℕ). DoneIn (level_at st n) i j) (sym new.0) (grown_cell known st l s i j (core.levels l new.1) e done new.2))
    ]

published_cells : Known → (st : State) (p l : ℕ) (strip : Option Region) (event : Event) → Core st → strip_at st l ≡ strip → AddsCells st p event (published st l strip).state
published_cells known st p l None event core e level i j h = inl h
published_cells known st p l (Some s) event core e level i j h =
    cond_both (length (unfinished_pieces st l) == 0) (grown st l s) _ (λ (step : Step). AddsCells st p event step.state) (λ none. grown_cells known st p l s event core e (all_done st l s e none)) (λ _. λ level i j h. inl h) level i j h

begun_cells : (st : State) (p : ℕ) (held : Option LevelTile) → AddsCells st p Begin (frame_begun st p held).state
begun_cells st p None level i j h = inl h
begun_cells st p (Some held) level i j h = inl h

ended_cells : (st : State) (p : ℕ) (frame : Option OpenFrame) → AddsCells st p End (ended st p frame).state
ended_cells st p None level i j h = inl h
ended_cells st p (Some frame) level i j h = inl h

-- a level after a move has no new cell
cut_cell : (it : Level) (w : Region) (i j : ℤ) → DoneIn (cut_level w it) i j → DoneIn it i j
cut_cell it w i j (inl t) = inl (met it.filled w i j t).0
cut_cell it w i j (inr h) = absurd (any_piece [] i j h).1

moved_cell : (st : State) (x y : ℤ) (a level : ℕ) (i j : ℤ) → DoneIn (level_then st x y a level) i j → DoneIn (level_at st level) i j
unfolding moved_level
moved_cell st x y a level i j =
    cond_both (keeps st x y a level) (level_at st level) (cut_level (window st.k level x y) (level_at st level)) (λ (it : Level). DoneIn it i j → DoneIn (level_at st level) i j) (λ _. λ h. h) (λ _. cut_cell (level_at st level) (window st.k level x y) i j)

moved_cells : (st : State) (x y : ℤ) (a level : ℕ) (i j : ℤ) → DoneIn (level_at (after_move st x y a) level) i j → DoneIn (level_at st level) i j
moved_cells st x y a level i j h =
    elim (cases_lt level (length st.levels)) [
      | inl there ↦ moved_cell st x y a level i j (subst (λ (it : Level). DoneIn it i j) (level_moved st x y a level there) h)
      | inr past ↦ absurd (none_done i j (subst (λ (it : Level). DoneIn it i j) (get_or_past (moved_levels st (seen_from st x y a)) level empty_level (subst (λ (n : ℕ). n ≤ level) (sym (count_moved st x y a)) past)) h))
    ]

pub cells_filled : Known → StepsFillCells
unfolding move_step claim_step finish_step publish_step begin_step end_step
cells_filled known st p (Move x y a) kept level i j h = inl (moved_cells st x y a level i j h)
cells_filled known st p Claim kept level i j h =
    cond_both (has_work (pass_at st p)) _ _ (λ (s : Step). AddsCells st p Claim s.state) (λ _. λ level i j h. inl h) (λ _. claimed_cells st p (first_of (offers st))) level i j h
cells_filled known st p Finish kept level i j h =
    given_cells known st p (job_of (pass_at st p)) (core_of known st kept) refl level i j h
cells_filled known st p (Publish l) kept level i j h =
    published_cells known st p l (strip_at st l) (Publish l) (core_of known st kept) refl level i j h
cells_filled known st p Begin kept level i j h =
    cond_both (has_work (pass_at st p)) _ _ (λ (s : Step). AddsCells st p Begin s.state) (λ _. λ level i j h. inl h) (λ _. begun_cells st p (first_of (held_under st (actives_at st)))) level i j h
cells_filled known st p End kept level i j h = ended_cells st p (frame_of (pass_at st p)) level i j h
