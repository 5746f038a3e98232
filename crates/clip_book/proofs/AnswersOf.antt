-- Which answers each kind of event can have.
use Rattle.std.proofs.Common.{◌≡◌, ℕ, ◌<◌, true, ◌==◌, length, Option, Some, None, is_some, refl, ap, sym, ◌∙◌, subst}
use Rattle.std.specs.Prelude.{option_map, unwrap_or}
use Rattle.std.proofs.lemmas.Bool.{cond_both, true≢false}
use Rattle.clip_regions.specs.declared.region.Region.{Region}
use Rattle.plan_model.specs.Strips.{first_of}
use Rattle.std.proofs.lemmas.List.{get_or-set_same}
use Rattle.plan_model.specs.declared.events.Work.TheVariants.{Free, Draws}
use Rattle.plan_model.specs.States.{State, OpenFrame, Pass, level_at, pass_at, frame_of, has_work, from_coarsest}
use Rattle.plan_model.specs.Tiles.{is_held, holder, tiles_met}
use Rattle.plan_model.specs.Claims.{Offer, offers, strip_at, unfinished_pieces, held_tiles}
use Rattle.plan_model.specs.Steps.{Step, LevelTile, step, claimed, claim_step, kept_job, stale_job, finished_job, given_back, finish_step, published, publish_step, held_under, actives_at, next_frame, frame_begun, begin_step, ended, end_step}
use Rattle.plan_model.specs.declared.tiles.TileId.{TileId}
use Rattle.plan_model.specs.declared.events.JobNote.{JobNote}
use Rattle.plan_model.specs.declared.events.Event.TheVariants.{Claim, Finish, Publish, Begin, End}
use Rattle.plan_model.specs.declared.events.Answer.{Answer}
use Rattle.plan_model.specs.declared.events.Answer.TheVariants.{Moved, Job, Idle, Ripe, Busy, Held, HasWork, Kept, Stale, Grown, Waiting, Whole, Frame, Closed, NoFrame}
use Rattle.plan_holds.specs.Kept.{HasJob}
use Rattle.plan_holds.proofs.Members.{Among, passed, first_among, map_of, flat_of}
use Rattle.book_cells.proofs.Claims.{of_no_offer}
use Rattle.clip_book.specs.Answers.{told_job, told_frame, IsClaimAnswer, IsRefusedClaim, IsGivenAnswer, IsPublishedAnswer, IsBeginAnswer, IsRefusedBegin, IsEndedAnswer}

-- ---- the end of a frame, a publication, a job that is given back
of_ended : (st : State) (p : ℕ) (frame : Option OpenFrame) → IsEndedAnswer (ended st p frame).answer
of_ended st p None = tt
of_ended st p (Some frame) = tt

pub end_answers : (st : State) (p : ℕ) → IsEndedAnswer (step st p End).answer
unfolding end_step
end_answers st p = of_ended st p (frame_of (pass_at st p))

of_published : (st : State) (level : ℕ) (strip : Option Region) → IsPublishedAnswer (published st level strip).answer
of_published st level None = tt
of_published st level (Some strip) =
    cond_both (length (unfinished_pieces st level) == 0) _ _ (λ (s : Step). IsPublishedAnswer s.answer) (λ _. tt) (λ _. tt)

pub publish_answers : (st : State) (p level : ℕ) → IsPublishedAnswer (step st p (Publish level)).answer
unfolding publish_step
publish_answers st p level = of_published st level (strip_at st level)

of_given : (st : State) (p : ℕ) (job : JobNote) → IsGivenAnswer (finished_job st p job).answer
unfolding finished_job
of_given st p job =
    cond_both (job.plan == (level_at st job.level).plan) (kept_job st p job) (stale_job st p job) (λ (s : Step). IsGivenAnswer s.answer) (λ _. tt) (λ _. tt)

pub finish_answers : (st : State) (p : ℕ) (job : JobNote) → HasJob st p job → IsGivenAnswer (step st p Finish).answer
unfolding finish_step
finish_answers st p job has =
    subst (λ (o : Option JobNote). IsGivenAnswer (given_back st p o).answer) (sym has) (of_given st p job)

-- ---- a claim
of_claimed : (st : State) (p : ℕ) (offer : Option Offer) → IsClaimAnswer (claimed st p offer).answer
of_claimed st p None = of_no_offer IsClaimAnswer tt (λ _. tt) (λ _ _ _. tt) (λ _ _ _. tt) st
of_claimed st p (Some offer) = tt

pub claim_answers : (st : State) (p : ℕ) → IsClaimAnswer (step st p Claim).answer
unfolding claim_step
claim_answers st p =
    cond_both (has_work (pass_at st p)) _ _ (λ (s : Step). IsClaimAnswer s.answer) (λ _. tt) (λ _. of_claimed st p (first_of (offers st)))

some_none : (P : Type 0) {X : Type 0} (x : X) → Some x ≡ None → P
some_none P x e = cc

pub refused_claims : (answer : Answer) → IsClaimAnswer answer → told_job answer ≡ None → IsRefusedClaim answer
refused_claims Moved h e = absurd h
refused_claims (Job level bx by cells plan) h e = some_none _ _ e
refused_claims Idle h e = tt
refused_claims (Ripe level) h e = tt
refused_claims (Busy level tile frame) h e = tt
refused_claims (Held level tile pass) h e = tt
refused_claims HasWork h e = tt
refused_claims Kept h e = absurd h
refused_claims (Stale plan now) h e = absurd h
refused_claims (Grown region) h e = absurd h
refused_claims (Waiting pieces) h e = absurd h
refused_claims Whole h e = absurd h
refused_claims (Frame number) h e = absurd h
refused_claims (Closed number) h e = absurd h
refused_claims NoFrame h e = absurd h

-- ---- a frame's beginning
-- a held tile under a region is held
abbrev level_tile : ℕ → TileId → LevelTile
level_tile level t = record { level = level; tile = t }

under_held : (st : State) (held : LevelTile) → first_of (held_under st (actives_at st)) ≡ Some held → is_held st held.level held.tile ≡ true
unfolding held_under held_tiles
under_held st held e =
    let level : (level : ℕ) × Among level (from_coarsest st) × Among held (_) = flat_of (λ level. _) (from_coarsest st) held (first_among (held_under st (actives_at st)) held e) in
    let t : (t : TileId) × Among t (held_tiles st level.0 _) × (level_tile level.0 t ≡ held) = map_of (level_tile level.0) (held_tiles st level.0 _) held level.2 in
    subst (λ (h : LevelTile). is_held st h.level h.tile ≡ true) t.2 (passed (is_held st level.0) (tiles_met st.k _) t.0 t.1).1

held_said : (st : State) (level : ℕ) (t : TileId) (p : Option ℕ) → is_some p ≡ true → IsBeginAnswer (unwrap_or (option_map (Held level t) p) Idle)
held_said st level t None e = absurd (true≢false (sym e))
held_said st level t (Some p) e = tt

of_begun : (st : State) (p : ℕ) (held : Option LevelTile) → first_of (held_under st (actives_at st)) ≡ held → IsBeginAnswer (frame_begun st p held).answer
unfolding is_held
of_begun st p None e = tt
of_begun st p (Some held) e = held_said st held.level held.tile (holder st held.level held.tile) (under_held st held e)

pub begin_answers : (st : State) (p : ℕ) → IsBeginAnswer (step st p Begin).answer
unfolding begin_step
begin_answers st p =
    cond_both (has_work (pass_at st p)) _ _ (λ (s : Step). IsBeginAnswer s.answer) (λ _. tt) (λ _. of_begun st p (first_of (held_under st (actives_at st))) refl)

pub refused_begins : (answer : Answer) → IsBeginAnswer answer → told_frame answer ≡ None → IsRefusedBegin answer
refused_begins Moved h e = absurd h
refused_begins (Job level bx by cells plan) h e = absurd h
refused_begins Idle h e = absurd h
refused_begins (Ripe level) h e = absurd h
refused_begins (Busy level tile frame) h e = absurd h
refused_begins (Held level tile pass) h e = tt
refused_begins HasWork h e = tt
refused_begins Kept h e = absurd h
refused_begins (Stale plan now) h e = absurd h
refused_begins (Grown region) h e = absurd h
refused_begins (Waiting pieces) h e = absurd h
refused_begins Whole h e = absurd h
refused_begins (Frame number) h e = some_none _ _ e
refused_begins (Closed number) h e = absurd h
refused_begins NoFrame h e = absurd h

-- a frame that was told is the pass's
held_no_frame : (level : ℕ) (t : TileId) (p : Option ℕ) → told_frame (unwrap_or (option_map (Held level t) p) Idle) ≡ None
held_no_frame level t None = refl
held_no_frame level t (Some p) = refl

not_told : {X : Type 0} (P : Type 0) (x : X) → None ≡ Some x → P
not_told P x e = cc

told_begun : (st : State) (p number : ℕ) (held : Option LevelTile) → p < length st.passes → told_frame (frame_begun st p held).answer ≡ Some number → is_some (frame_of (pass_at (frame_begun st p held).state p)) ≡ true
told_begun st p number None there e =
    ap (λ (pass : Pass). is_some (frame_of pass)) (get_or-set_same st.passes p (Draws (next_frame st)) Free there)
told_begun st p number (Some held) there e =
    not_told _ number (sym (held_no_frame held.level held.tile (holder st held.level held.tile)) ∙ e)

pub begun_there : (st : State) (p number : ℕ) → p < length st.passes → told_frame (step st p Begin).answer ≡ Some number → is_some (frame_of (pass_at (step st p Begin).state p)) ≡ true
unfolding begin_step
begun_there st p number there =
    cond_both (has_work (pass_at st p)) _ _ (λ (s : Step). told_frame s.answer ≡ Some number → is_some (frame_of (pass_at s.state p)) ≡ true) (λ _. λ e. not_told _ number e) (λ _. told_begun st p number (first_of (held_under st (actives_at st))) there)

pub some_mapped : {X Y : Type 0} (f : X → Y) (o : Option X) (w : Option Y) → option_map f o ≡ w → is_some w ≡ true → is_some o ≡ true
some_mapped f None w e t = absurd (true≢false (sym t ∙ ap is_some (sym e)))
some_mapped f (Some x) w e t = refl
