-- What a state's jobs, cells and frames are to the heights, before and after an event.
use Rattle.std.proofs.Common.{◌≡◌, ℕ, ◌≤◌, true, false, ◌==◌, ℤ, List, length, get_or, set, Option, Some, None, refl, ap, sym, ◌∙◌, subst, inl, inr, ◌⊎◌, arith}
use Rattle.std.proofs.lemmas.Bool.{cases_eq, cases_lt, cond_both, true≢false}
use Rattle.std.proofs.lemmas.List.{get_or-set_same}
use Rattle.plan_holds.proofs.Members.{among_all, among_at, set_past}
use Rattle.clip_regions.specs.Regions.{contains}
use Rattle.terrain_model.specs.Terrain.{Terrain}
use Rattle.plan_model.specs.Blocks.{tile_of_cell, wrapped_place}
use Rattle.plan_model.specs.Laws.{OneTileABlock}
use Rattle.plan_model.specs.States.{State, OpenFrame, Pass, pass_at, with_pass, job_of, frame_of, has_work, level_at}
use Rattle.plan_model.specs.Tiles.{IsHeld}
use Rattle.plan_model.specs.Steps.{Step, LevelTile, step, begin_step, frame_begun, actives_at, next_frame, held_under, end_step, ended, finish_step, given_back, finished_job, kept_job, stale_job}
use Rattle.plan_model.specs.Strips.{first_of}
use Rattle.plan_model.specs.declared.tiles.TileId.{TileId}
use Rattle.plan_model.specs.declared.tiles.Piece.{Piece}
use Rattle.plan_model.specs.declared.events.JobNote.{JobNote}
use Rattle.plan_model.specs.declared.events.Work.TheVariants.{Free, Fills, Draws}
use Rattle.plan_model.specs.declared.events.Event.{Event}
use Rattle.plan_model.specs.declared.events.Event.TheVariants.{Move, Claim, Finish, Publish, Begin, End}
use Rattle.plan_histories.specs.Parts.{OthersKeepParts, MovesLeaveParts, PublicationsLeaveParts}
use Rattle.plan_holds.specs.Apart.{HasCell, AreApart}
use Rattle.plan_holds.specs.Kept.{HasJob, HasFrame, HoldsTile, active_in, finished_at, IsJobKept, IsKept}
use Rattle.plan_holds.specs.Changes.{IsDone, IsGivenBack, StepsFillCells, StepsBeginFrames}
use Rattle.plan_holds.specs.Laws.{ComesAfter, StepsGoOn}
use Rattle.plan_holds.proofs.Places.{block_tile}
use Rattle.plan_holds.proofs.Cells.{held_in}
use Rattle.plan_holds.proofs.Tiles.{is_held_by, holder_of, held_by_job, holding, job_there}
use Rattle.plan_holds.proofs.Passes.{freed_job, none_some, some_same}
use Rattle.torus_grid.specs.Laws.{PlacesInTiles}
use Rattle.book_cells.specs.Cells.{Cells, HasHeight, HasCells}
use Rattle.book_cells.specs.Laws.{MovesNoTile, CellsStay, CellsGoOut, CellsComeHome, IsGiven, ClaimsGiveJobs}
use Rattle.book_cells.proofs.Core.{tile_of_job, Unheld, Right, Sound, stays, goes_out, comes_home}

-- a cell that an open frame draws, and one that is done or drawn
abbrev IsDrawn : State → ℕ → ℤ → ℤ → Type 0
IsDrawn st level i j = (p : ℕ) × (frame : OpenFrame) × HasFrame st p frame × HasCell (active_in frame level) i j

abbrev Marked : State → ℕ → ℤ → ℤ → Type 0
Marked st level i j = IsDone st level i j ⊎ IsDrawn st level i j

abbrev SoundIn : Terrain → State → Cells → Type 0
SoundIn terrain st cells = Sound terrain st.k (length st.levels) (HasJob st) (Marked st) cells

-- ---- held tiles
held_job : (st : State) (level : ℕ) (t : TileId) → IsHeld st level t → (p : ℕ) × (job : JobNote) × HasJob st p job × (job.level ≡ level) × (tile_of_job st.k job ≡ t)
held_job st level t h =
    let p : (p : ℕ) × HoldsTile st p level t = holder_of st level t h in
    let job : (job : JobNote) × HasJob st p.0 job × (job.level ≡ level) × (tile_of_job st.k job ≡ t) = held_by_job st p.0 level t p.1 in
    (p.0, job.0, job.1, job.2, job.3)

is_held_with : (st : State) (p : ℕ) (job : JobNote) (level : ℕ) (t : TileId) → HasJob st p job → job.level ≡ level → tile_of_job st.k job ≡ t → IsHeld st level t
is_held_with st p job level t h l e =
    subst (λ (v : ℕ). IsHeld st v t) l (subst (λ (u : TileId). IsHeld st job.level u) e (is_held_by st p job h))

not_held : (st : State) (level : ℕ) (t : TileId) → Unheld st.k (HasJob st) level t → ¬ IsHeld st level t
not_held st level t none h =
    let it : (p : ℕ) × (job : JobNote) × HasJob st p job × (job.level ≡ level) × (tile_of_job st.k job ≡ t) = held_job st level t h in
    none it.0 it.1 it.2 it.3 it.4

unheld : (st : State) (level : ℕ) (t : TileId) → ¬ IsHeld st level t → Unheld st.k (HasJob st) level t
unheld st level t none p job h l e = none (is_held_with st p job level t h l e)

-- ---- the public record and the sound heights
right_of : (terrain : Terrain) (st : State) (cells : Cells) (level : ℕ) (i j : ℤ) → HasHeight terrain st cells level i j → Right terrain st.k (HasJob st) cells level i j
right_of terrain st cells level i j h = record { home = h.home; out = h.out }

height_of : (terrain : Terrain) (st : State) (cells : Cells) (level : ℕ) (i j : ℤ) → Right terrain st.k (HasJob st) cells level i j → HasHeight terrain st cells level i j
height_of terrain st cells level i j h = record { home = h.home; out = h.out }

marked_right : (terrain : Terrain) (st : State) (cells : Cells) → HasCells terrain st cells → (level : ℕ) (i j : ℤ) → Marked st level i j → Right terrain st.k (HasJob st) cells level i j
marked_right terrain st cells has level i j (inl done) =
    right_of terrain st cells level i j (has.done level i j done)
marked_right terrain st cells has level i j (inr d) =
    right_of terrain st cells level i j (has.drawn d.0 d.1 level i j d.2 d.3)

pub sound_of : (terrain : Terrain) (st : State) (cells : Cells) → HasCells terrain st cells → SoundIn terrain st cells
sound_of terrain st cells has = record {
  home = λ level t few there none. has.home level t few there (not_held st level t none);
  out = has.out;
  right = marked_right terrain st cells has;
}

pub cells_of : (terrain : Terrain) (st : State) (cells : Cells) → SoundIn terrain st cells → HasCells terrain st cells
cells_of terrain st cells sound = record {
  home = λ level t few there none. sound.home level t few there (unheld st level t none);
  out = sound.out;
  done = λ level i j done. height_of terrain st cells level i j (sound.right level i j (inl done));
  drawn = λ p frame level i j h t. height_of terrain st cells level i j (sound.right level i j (inr (p, frame, h, t)));
}

-- sound heights of a state that comes after another
after_sound : (terrain : Terrain) (st next : State) (cells : Cells) → ComesAfter st next → Sound terrain st.k (length st.levels) (HasJob next) (Marked next) cells → HasCells terrain next cells
after_sound terrain st next cells after sound =
    cells_of terrain next cells (subst (λ (k : ℕ). Sound terrain k (length next.levels) (HasJob next) (Marked next) cells) (sym after.size) (subst (λ (n : ℕ). Sound terrain st.k n (HasJob next) (Marked next) cells) (sym after.levels) sound))

-- ---- what is marked after an event
marked_before : StepsFillCells → StepsBeginFrames → (st : State) (p : ℕ) (event : Event) → IsKept st → (level : ℕ) (i j : ℤ) → Marked (step st p event).state level i j → Marked st level i j ⊎ IsGivenBack st p event level i j
marked_before fills frames st p event kept level i j (inl done) =
    elim (fills st p event kept level i j done) [
      | inl was ↦ inl (inl was)
      | inr new ↦ inr new
    ]
marked_before fills frames st p event kept level i j (inr d) =
    elim (frames st p event d.0 d.1 d.2) [
      | inl was ↦ inl (inr (d.0, d.1, was, d.3))
      | inr new ↦ inl (inl (inl (new.filled level i j d.3)))
    ]

-- ---- events that move no tile
quiet_is_not : (P : Type 0) (event : Event) → MovesNoTile event → event ≡ Finish → P
quiet_is_not P event quiet e = absurd (subst MovesNoTile e quiet)

no_job : (pass : Pass) → has_work pass ≡ false → job_of pass ≡ None
no_job Free e = refl
no_job (Fills job) e = absurd (true≢false e)
no_job (Draws frame) e = absurd (true≢false e)

no_job_draws : (pass : Pass) (frame : OpenFrame) → frame_of pass ≡ Some frame → job_of pass ≡ None
no_job_draws Free frame e = refl
no_job_draws (Fills job) frame e = absurd (cc)
no_job_draws (Draws other) frame e = refl

-- a pass without a job that gets none has none
set_no_job : (passes : List Pass) (p : ℕ) (w : Pass) → job_of w ≡ None → job_of (get_or passes p Free) ≡ None → job_of (get_or (set passes p w) p Free) ≡ None
set_no_job passes p w none old =
    elim (cases_lt p (length passes)) [
      | inl there ↦ ap job_of (get_or-set_same passes p w Free there) ∙ none
      | inr past ↦ ap (λ (ps : List Pass). job_of (get_or ps p Free)) (set_past passes p w past) ∙ old
    ]

abbrev SameJob : State → ℕ → State → Type 0
SameJob st q next = job_of (pass_at next q) ≡ job_of (pass_at st q)

begun_job : (st : State) (p : ℕ) (held : Option LevelTile) → job_of (pass_at st p) ≡ None → SameJob st p (frame_begun st p held).state
begun_job st p (Some held) e = refl
begun_job st p None e = set_no_job st.passes p (Draws (next_frame st)) refl e ∙ sym e

begin_job : (st : State) (p : ℕ) → SameJob st p (begin_step st p).state
unfolding begin_step
begin_job st p =
    cond_both (has_work (pass_at st p)) _ _ (λ (s : Step). SameJob st p s.state) (λ _. refl) (λ e. begun_job st p (first_of (held_under st (actives_at st))) (no_job (pass_at st p) e))

ended_job : (st : State) (p : ℕ) (frame : Option OpenFrame) → frame_of (pass_at st p) ≡ frame → SameJob st p (ended st p frame).state
ended_job st p None e = refl
ended_job st p (Some frame) e =
    let none : job_of (pass_at st p) ≡ None = no_job_draws (pass_at st p) frame e in
    set_no_job st.passes p Free refl none ∙ sym none

end_job : (st : State) (p : ℕ) → SameJob st p (end_step st p).state
unfolding end_step
end_job st p = ended_job st p (frame_of (pass_at st p)) refl

of_other : OthersKeepParts → (st : State) (p q : ℕ) (event : Event) → SameJob st p (step st p event).state → SameJob st q (step st p event).state
of_other others st p q event own =
    elim (cases_eq p q) [
      | inl same ↦ subst (λ (r : ℕ). SameJob st r (step st p event).state) same own
      | inr other ↦ ap job_of (others st p q event other)
    ]

of_passes : (st next : State) (q : ℕ) → next.passes ≡ st.passes → SameJob st q next
of_passes st next q e = ap (λ (passes : List Pass). job_of (get_or passes q Free)) e

quiet_jobs : OthersKeepParts → MovesLeaveParts → PublicationsLeaveParts → (st : State) (p q : ℕ) (event : Event) → MovesNoTile event → SameJob st q (step st p event).state
quiet_jobs others moves publications st p q (Move x y a) quiet =
    of_passes st (step st p (Move x y a)).state q (moves st p x y a)
quiet_jobs others moves publications st p q Claim quiet = absurd quiet
quiet_jobs others moves publications st p q Finish quiet = absurd quiet
quiet_jobs others moves publications st p q (Publish level) quiet =
    of_passes st (step st p (Publish level)).state q (publications st p level)
quiet_jobs others moves publications st p q Begin quiet = of_other others st p q Begin (begin_job st p)
quiet_jobs others moves publications st p q End quiet = of_other others st p q End (end_job st p)

pub cells_stay : StepsGoOn → StepsFillCells → StepsBeginFrames → OthersKeepParts → MovesLeaveParts → PublicationsLeaveParts → CellsStay
cells_stay goes fills frames others moves publications terrain st p event cells kept quiet has =
    after_sound terrain st (step st p event).state cells (goes st p event) (stays terrain st.k (length st.levels) (HasJob st) (HasJob (step st p event).state) (Marked st) (Marked (step st p event).state) cells (λ q job h. quiet_jobs others moves publications st p q event quiet ∙ h) (λ q job h. sym (quiet_jobs others moves publications st p q event quiet) ∙ h) (λ level i j m. elim (marked_before fills frames st p event kept level i j m) [
      | inl was ↦ was
      | inr new ↦ quiet_is_not _ event quiet new.asked
    ]) (sound_of terrain st cells has))

-- ---- a job that is given back
freed_passes : (st : State) (p : ℕ) (job : JobNote) → (finished_job st p job).state.passes ≡ set st.passes p Free
unfolding finished_job
freed_passes st p job =
    cond_both (job.plan == (level_at st job.level).plan) (kept_job st p job) (stale_job st p job) (λ (s : Step). s.state.passes ≡ set st.passes p Free) (λ _. refl) (λ _. refl)

given_passes : (st : State) (p : ℕ) (job : JobNote) → HasJob st p job → (step st p Finish).state.passes ≡ set st.passes p Free
unfolding finish_step
given_passes st p job h =
    subst (λ (o : Option JobNote). (given_back st p o).state.passes ≡ set st.passes p Free) (sym h) (freed_passes st p job)

given_job : (st : State) (p q : ℕ) (job one : JobNote) → HasJob st p job → HasJob (step st p Finish).state q one → (q ≡ p → ⊥) × HasJob st q one
given_job st p q job one has h =
    let h' : HasJob (with_pass st p Free) q one = subst (λ (passes : List Pass). job_of (get_or passes q Free) ≡ Some one) (given_passes st p job has) h in
    freed_job st p q one (job_there st p job has) h'

-- ---- what is marked has no place of a job's cells
done_apart : (st : State) (job : JobNote) → IsJobKept st job → (i j i' j' : ℤ) → IsDone st job.level i j → contains job.piece.cells i' j' ≡ true → wrapped_place st.k i j ≡ wrapped_place st.k i' j' → ⊥
done_apart st job kept i j i' j' (inl t) there e = kept.filled i j i' j' t there e
done_apart st job kept i j i' j' (inr a) there e =
    let q : Piece = a.1 in
    among_all (λ piece. AreApart st.k piece.cells job.piece.cells) (finished_at st job.level) q kept.finished (among_at (finished_at st job.level) q a.0 a.2 a.3) i j i' j' a.4 there e

marked_apart : (st : State) (p : ℕ) (job : JobNote) → IsKept st → HasJob st p job → (i j i' j' : ℤ) → Marked st job.level i j → contains job.piece.cells i' j' ≡ true → wrapped_place st.k i j ≡ wrapped_place st.k i' j' → ⊥
marked_apart st p job kept h i j i' j' (inl done) there e =
    done_apart st job (kept.jobs p job h) i j i' j' done there e
marked_apart st p job kept h i j i' j' (inr d) there e =
    (kept.jobs p job h).drawn d.0 d.1 d.2 i j i' j' d.3 there e

given_of : (st : State) (p : ℕ) (job : JobNote) → HasJob st p job → (level : ℕ) (i j : ℤ) → IsGivenBack st p Finish level i j → (level ≡ job.level) × (contains job.piece.cells i j ≡ true)
given_of st p job has level i j back =
    let same : back.job ≡ job = some_same (sym back.has ∙ has) in
    (sym back.same ∙ ap (λ (o : JobNote). o.level) same, subst (λ (o : JobNote). contains o.piece.cells i j ≡ true) same back.cell)

pub cells_come_home : StepsGoOn → StepsFillCells → StepsBeginFrames → OthersKeepParts → OneTileABlock → PlacesInTiles → CellsComeHome
cells_come_home goes fills frames others one_tile places terrain st p job old new kept has moves cells =
    let large : 4 ≤ st.k = kept.size.low in
    let mine : IsJobKept st job = kept.jobs p job has in
    let block : (i j : ℤ) → contains job.piece.cells i j ≡ true → tile_of_cell st.k i j ≡ tile_of_job st.k job = λ i j t. block_tile one_tile st.k job.piece.bx job.piece.by i j (omega arith) (held_in _ job.piece.cells i j mine.block t) in
    after_sound terrain st (step st p Finish).state new (goes st p Finish) (comes_home terrain st.k (length st.levels) (HasJob st) (HasJob (step st p Finish).state) (Marked st) (Marked (step st p Finish).state) p job old new has (λ one h. some_same (sym h ∙ has)) (λ q one other h. ap job_of (others st p q Finish (λ e. other (sym e))) ∙ h) (λ q one h. given_job st p q job one has h) (λ level i j m. elim (marked_before fills frames st p Finish kept level i j m) [
      | inl was ↦ inl was
      | inr back ↦ inr (given_of st p job has level i j back)
    ]) (λ q one h l e. kept.one_holder job.level (tile_of_job st.k job) q p (holding st q one job.level (tile_of_job st.k job) h l e) (holding st p job job.level (tile_of_job st.k job) has refl refl)) (marked_apart st p job kept has) block places (omega arith) moves (sound_of terrain st old cells))

-- ---- a claim
claimed_other : (st : State) (p q : ℕ) (one : JobNote) → has_work (pass_at st p) ≡ false → HasJob st q one → p ≡ q → ⊥
claimed_other st p q one free h e =
    none_some ⊥ one (sym (no_job (pass_at st p) free) ∙ subst (λ (r : ℕ). HasJob st r one) (sym e) h)

claimed_back : OthersKeepParts → (st : State) (p : ℕ) (job : JobNote) → IsGiven st p job → (q : ℕ) (one : JobNote) → HasJob (step st p Claim).state q one → ((q ≡ p) × (one ≡ job)) ⊎ ((q ≡ p → ⊥) × HasJob st q one)
claimed_back others st p job given q one h =
    elim (cases_eq q p) [
      | inl same ↦ inl (same, some_same (sym (subst (λ (r : ℕ). HasJob (step st p Claim).state r one) same h) ∙ given.has))
      | inr other ↦ inr (other, sym (ap job_of (others st p q Claim (λ e. other (sym e)))) ∙ h)
    ]

not_claim : (P : Type 0) → Claim ≡ Finish → P
not_claim P e = cc

pub cells_go_out : StepsGoOn → StepsFillCells → StepsBeginFrames → OthersKeepParts → ClaimsGiveJobs → CellsGoOut
cells_go_out goes fills frames others gives terrain st p job old new kept there claimed moves cells =
    let given : IsGiven st p job = gives st p job there claimed in
    after_sound terrain st (step st p Claim).state new (goes st p Claim) (goes_out terrain st.k (length st.levels) (HasJob st) (HasJob (step st p Claim).state) (Marked st) (Marked (step st p Claim).state) p job old new given.has (λ q one h. ap job_of (others st p q Claim (λ e. claimed_other st p q one given.free h e)) ∙ h) (claimed_back others st p job given) (λ level i j m. elim (marked_before fills frames st p Claim kept level i j m) [
      | inl was ↦ was
      | inr back ↦ not_claim _ back.asked
    ]) (unheld st job.level (tile_of_job st.k job) given.unheld) moves (sound_of terrain st old cells))
