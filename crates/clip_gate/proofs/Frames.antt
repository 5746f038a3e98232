-- The frames of a history have as many active regions as there are levels.
use Rattle.std.proofs.Common.{◌≡◌, ℕ, zero, suc, ◌==◌, List, [], ◌∷◌, length, set, get_or, replicate, sym, ap, ◌∙◌, subst}
use Rattle.std.specs.Prelude.{Option, Some, None}
use Rattle.std.proofs.lemmas.Bool.{cond_both}
use Rattle.std.proofs.lemmas.List.{length-map, length-replicate}
use Rattle.plan_model.specs.Strips.{first_of}
use Rattle.plan_model.specs.States.{State, Level, OpenFrame, Pass, empty_level, start_state, level_at, pass_at, job_of, frame_of, has_work, finest_at, filled_regions}
use Rattle.plan_model.specs.Claims.{Offer, offers}
use Rattle.plan_model.specs.Steps.{Step, LevelTile, move_step, claimed_job, claimed, claim_step, kept_job, stale_job, finished_job, given_back, finish_step, held_under, actives_at, next_frame, frame_begun, begin_step, ended, end_step, step}
use Rattle.plan_model.specs.Histories.{state_after}
use Rattle.plan_model.specs.declared.events.JobNote.{JobNote}
use Rattle.plan_model.specs.declared.events.Work.TheVariants.{Free, Fills, Draws}
use Rattle.plan_model.specs.declared.events.Event.{Event}
use Rattle.plan_model.specs.declared.events.Event.TheVariants.{Move, Claim, Finish, Publish, Begin, End}
use Rattle.plan_model.specs.declared.events.Entry.{Entry}
use Rattle.plan_laws.specs.Drawn.{ActivesAreAsMany}
use Rattle.plan_holds.specs.Laws.{StepsGoOn}
use Rattle.plan_histories.proofs.LegalLaws.{after_none, after_first}
use Rattle.plan_histories.proofs.PassLaws.{publications_leave_parts}
use Rattle.gate_rule.specs.Rule.{Ground, state_in}

abbrev AsMany : ℕ → List Pass → Type 0
AsMany n ps = (q : ℕ) (frame : OpenFrame) → frame_of (get_or ps q Free) ≡ Some frame → length frame.actives ≡ n

abbrev HasMany : ℕ → Pass → Type 0
HasMany n w = (frame : OpenFrame) → frame_of w ≡ Some frame → length frame.actives ≡ n

none_frame : (frame : OpenFrame) → None ≡ Some frame → ⊥
none_frame frame e = cc

same_frame : (a b : OpenFrame) → Some a ≡ Some b → a ≡ b
same_frame a b e = cc

set_many : (n : ℕ) (ps : List Pass) (p : ℕ) (w : Pass) → AsMany n ps → HasMany n w → AsMany n (set ps p w)
set_many n [] p w h new q frame e = h q frame e
set_many n (x ∷ xs) zero w h new zero frame e = new frame e
set_many n (x ∷ xs) zero w h new (suc q) frame e = h (suc q) frame e
set_many n (x ∷ xs) (suc p) w h new zero frame e = h zero frame e
set_many n (x ∷ xs) (suc p) w h new (suc q) frame e = set_many n xs p w (λ r f d. h (suc r) f d) new q frame e

free_many : (n : ℕ) → HasMany n Free
free_many n frame e = absurd (none_frame frame e)

fills_many : (n : ℕ) (note : JobNote) → HasMany n (Fills note)
fills_many n note frame e = absurd (none_frame frame e)

claimed_many : (n : ℕ) (st : State) (p : ℕ) (offer : Option Offer) → AsMany n st.passes → AsMany n (claimed st p offer).state.passes
claimed_many n st p None h = h
claimed_many n st p (Some offer) h = set_many n st.passes p (Fills (claimed_job st offer)) h (fills_many n (claimed_job st offer))

given_many : (n : ℕ) (st : State) (p : ℕ) (job : Option JobNote) → AsMany n st.passes → AsMany n (given_back st p job).state.passes
unfolding finished_job
given_many n st p None h = h
given_many n st p (Some job) h =
    cond_both (job.plan == (level_at st job.level).plan) (kept_job st p job) (stale_job st p job) (λ (s : Step). AsMany n s.state.passes) (λ _. set_many n st.passes p Free h (free_many n)) (λ _. set_many n st.passes p Free h (free_many n))

begun_many : ActivesAreAsMany → (st : State) (p : ℕ) (held : Option LevelTile) → AsMany (length st.levels) st.passes → AsMany (length st.levels) (frame_begun st p held).state.passes
begun_many law st p (Some held) h = h
begun_many law st p None h =
    set_many (length st.levels) st.passes p (Draws (next_frame st)) h (λ frame e.
    ap (λ (f : OpenFrame). length f.actives) (sym (same_frame (next_frame st) frame e))
    ∙ law st.k (finest_at st) (filled_regions st)
    ∙ length-map st.levels (λ (level : Level). level.filled))

ended_many : (n : ℕ) (st : State) (p : ℕ) (frame : Option OpenFrame) → AsMany n st.passes → AsMany n (ended st p frame).state.passes
ended_many n st p None h = h
ended_many n st p (Some frame) h = set_many n st.passes p Free h (free_many n)

step_many : ActivesAreAsMany → (st : State) (p : ℕ) (event : Event) → AsMany (length st.levels) st.passes → AsMany (length st.levels) (step st p event).state.passes
unfolding move_step claim_step finish_step begin_step end_step
step_many law st p (Move x y a) h = h
step_many law st p Claim h = cond_both (has_work (pass_at st p)) _ _ (λ (s : Step). AsMany (length st.levels) s.state.passes) (λ _. h) (λ _. claimed_many (length st.levels) st p (first_of (offers st)) h)
step_many law st p Finish h = given_many (length st.levels) st p (job_of (pass_at st p)) h
step_many law st p (Publish level) h = subst (AsMany (length st.levels)) (sym (publications_leave_parts st p level)) h
step_many law st p Begin h = cond_both (has_work (pass_at st p)) _ _ (λ (s : Step). AsMany (length st.levels) s.state.passes) (λ _. h) (λ _. begun_many law st p (first_of (held_under st (actives_at st))) h)
step_many law st p End h = ended_many (length st.levels) st p (frame_of (pass_at st p)) h

after_many : ActivesAreAsMany → StepsGoOn → (st : State) (log : List Entry) → AsMany (length st.levels) st.passes → AsMany (length st.levels) (state_after st log).passes
after_many law go st [] h = subst (λ (s : State). AsMany (length st.levels) s.passes) (sym (after_none st)) h
after_many law go st (x ∷ rest) h =
    let next : State = (step st x.pass x.event).state in
    let levels : length next.levels ≡ length st.levels = (go st x.pass x.event).levels in
    let here : AsMany (length next.levels) next.passes = subst (λ (n : ℕ). AsMany n next.passes) (sym levels) (step_many law st x.pass x.event h) in
    subst (λ (s : State). AsMany (length st.levels) s.passes) (sym (after_first st x rest))
    (subst (λ (n : ℕ). AsMany n (state_after next rest).passes) levels (after_many law go next rest here))

free_frames : (n q : ℕ) (frame : OpenFrame) → frame_of (get_or (replicate n Free) q Free) ≡ Some frame → ⊥
free_frames zero q frame e = none_frame frame e
free_frames (suc n) zero frame e = none_frame frame e
free_frames (suc n) (suc q) frame e = free_frames n q frame e

pub frames_many : ActivesAreAsMany → StepsGoOn → (g : Ground) (log : List Entry) (p : ℕ) (frame : OpenFrame) → frame_of (pass_at (state_in g log) p) ≡ Some frame → length frame.actives ≡ g.land.levels
unfolding start_state
frames_many law go g log p frame has =
    after_many law go (start_state g.size g.land.levels) log (λ q f e. absurd (free_frames 16 q f e)) p frame has ∙ length-replicate g.land.levels empty_level
