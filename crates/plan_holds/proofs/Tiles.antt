-- Which pass holds a tile and which frame pins it: between the definitions' lists and one pass or frame.
use Rattle.std.proofs.Common.{◌≡◌, ℕ, ◌<◌, ◌≤◌, Bool, true, cond, ◌==◌, List, [], ◌∷◌, length, fold, min, Option, Some, None, is_some, refl, ap, sym, ◌∙◌, subst, inl, inr, arith}
use Rattle.std.proofs.lemmas.Bool.{cases_Bool, cases_lt, and_parts, and_from, eqb-true, eq-eqb, true≢false}
use Rattle.std.proofs.lemmas.List.{get_or_past, get_or_default}
use Rattle.std.proofs.lemmas.List.Elements.{Contains-get_or}
use Rattle.std.specs.List.{Contains, filter, flat_map, range_with_len}
use Rattle.plan_model.specs.Blocks.{same_tile}
use Rattle.plan_model.specs.Strips.{first_of}
use Rattle.plan_model.specs.States.{State, OpenFrame, Pass, pass_at, job_of, frame_of}
use Rattle.plan_model.specs.Tiles.{meets_tile, job_holds, holder, is_held, IsHeld, pins_of, pinning_frames, lesser, pinner, is_pinned, IsPinned}
use Rattle.plan_model.specs.declared.tiles.TileId.{TileId}
use Rattle.plan_model.specs.declared.events.JobNote.{JobNote}
use Rattle.plan_model.specs.declared.events.Work.TheVariants.{Free}
use Rattle.plan_holds.specs.Kept.{HasJob, HasFrame, HoldsTile, active_in}
use Rattle.plan_holds.proofs.Members.{Among, among, contained, passed, passing, flat, flat_of, ranged}
use Rattle.plan_holds.proofs.Places.{one_tile, tile_itself}
use Rattle.plan_holds.proofs.Parts.{tile}

-- ---- a list has a first element where it has one
pub some_first : {X : Type 0} (xs : List X) (x : X) → Among x xs → is_some (first_of xs) ≡ true
some_first [] x h = absurd h
some_first (y ∷ ys) x h = refl

pub first_some : {X : Type 0} (xs : List X) → is_some (first_of xs) ≡ true → (x : X) × Among x xs
first_some [] t = absurd (true≢false (sym t))
first_some (y ∷ ys) t = (y, inl refl)

least_of_some : (m : ℕ) (xs : List ℕ) → is_some (fold lesser (Some m) xs) ≡ true
least_of_some m [] = refl
least_of_some m (x ∷ xs) = least_of_some (min m x) xs

some_least : (xs : List ℕ) (n : ℕ) → Among n xs → is_some (fold lesser None xs) ≡ true
some_least [] n h = absurd h
some_least (x ∷ xs) n h = least_of_some x xs

least_some : (xs : List ℕ) → is_some (fold lesser None xs) ≡ true → (n : ℕ) × Among n xs
least_some [] t = absurd (true≢false (sym t))
least_some (x ∷ xs) t = (x, inl refl)

-- ---- a pass that has work is there
free_past : (st : State) (p : ℕ) → length st.passes ≤ p → pass_at st p ≡ Free
free_past st p h = get_or_past st.passes p Free h

pub job_there : (st : State) (p : ℕ) (job : JobNote) → HasJob st p job → p < length st.passes
job_there st p job h =
    elim (cases_lt p (length st.passes)) [
      | inl l ↦ l
      | inr past ↦ let none : None ≡ Some job = sym (ap job_of (free_past st p past)) ∙ h in absurd (cc)
    ]

pub frame_there : (st : State) (p : ℕ) (frame : OpenFrame) → HasFrame st p frame → p < length st.passes
frame_there st p frame h =
    elim (cases_lt p (length st.passes)) [
      | inl l ↦ l
      | inr past ↦ let none : None ≡ Some frame = sym (ap frame_of (free_past st p past)) ∙ h in absurd (cc)
    ]

-- ---- a pass that holds a tile
job_holding : (k level : ℕ) (t : TileId) (o : Option JobNote) (job : JobNote) → o ≡ Some job → job.level ≡ level → tile k job.piece ≡ t → job_holds k level t o ≡ true
job_holding k level t o job e l same =
    subst (λ (w : Option JobNote). job_holds k level t w ≡ true) (sym e) (and_from (job.level == level) (same_tile (tile k job.piece) t) (eq-eqb job.level level l) (tile_itself (tile k job.piece) t same))

holding_job : (k level : ℕ) (t : TileId) (o : Option JobNote) → job_holds k level t o ≡ true → (job : JobNote) × (o ≡ Some job) × (job.level ≡ level) × (tile k job.piece ≡ t)
holding_job k level t None e = absurd (true≢false (sym e))
holding_job k level t (Some job) e =
    let parts : ((job.level == level) ≡ true) × (same_tile (tile k job.piece) t ≡ true) = and_parts (job.level == level) (same_tile (tile k job.piece) t) e in
    (job, refl, eqb-true job.level level parts.0, one_tile (tile k job.piece) t parts.1)

pub holding : (st : State) (p : ℕ) (job : JobNote) (level : ℕ) (t : TileId) → HasJob st p job → job.level ≡ level → tile st.k job.piece ≡ t → HoldsTile st p level t
holding st p job level t h l same = job_holding st.k level t (job_of (pass_at st p)) job h l same

pub held_by_job : (st : State) (p level : ℕ) (t : TileId) → HoldsTile st p level t → (job : JobNote) × HasJob st p job × (job.level ≡ level) × (tile st.k job.piece ≡ t)
held_by_job st p level t h = holding_job st.k level t (job_of (pass_at st p)) h

pub is_held_by : (st : State) (p : ℕ) (job : JobNote) → HasJob st p job → IsHeld st job.level (tile st.k job.piece)
unfolding is_held holder
is_held_by st p job h =
    some_first (filter (λ q. job_holds st.k job.level (tile st.k job.piece) (job_of (pass_at st q))) (range_with_len 0 (length st.passes))) p (passing (λ q. job_holds st.k job.level (tile st.k job.piece) (job_of (pass_at st q))) (range_with_len 0 (length st.passes)) p (ranged 0 (length st.passes) p (omega arith) (let there : p < length st.passes = job_there st p job h in omega arith)) (holding st p job job.level (tile st.k job.piece) h refl refl))

pub holder_of : (st : State) (level : ℕ) (t : TileId) → IsHeld st level t → (p : ℕ) × HoldsTile st p level t
unfolding is_held holder
holder_of st level t h =
    let first : (p : ℕ) × Among p (filter (λ q. job_holds st.k level t (job_of (pass_at st q))) (range_with_len 0 (length st.passes))) = first_some (filter (λ q. job_holds st.k level t (job_of (pass_at st q))) (range_with_len 0 (length st.passes))) h in
    (first.0, (passed (λ q. job_holds st.k level t (job_of (pass_at st q))) (range_with_len 0 (length st.passes)) first.0 first.1).1)

-- ---- a frame that pins a tile
pinning_frame : (k level : ℕ) (t : TileId) (o : Option OpenFrame) (frame : OpenFrame) → o ≡ Some frame → meets_tile k (active_in frame level) t ≡ true → Among frame.number (pins_of k level t o)
pinning_frame k level t o frame e m =
    subst (λ (w : Option OpenFrame). Among frame.number (pins_of k level t w)) (sym e) (subst (λ (b : Bool). Among frame.number (cond b (frame.number ∷ []) [])) (sym m) (inl refl))

frame_pinning : (k level : ℕ) (t : TileId) (o : Option OpenFrame) (n : ℕ) → Among n (pins_of k level t o) → (frame : OpenFrame) × (o ≡ Some frame) × (meets_tile k (active_in frame level) t ≡ true)
frame_pinning k level t None n h = absurd h
frame_pinning k level t (Some frame) n h =
    elim (cases_Bool (meets_tile k (active_in frame level) t)) [
      | inl m ↦ (frame, refl, m)
      | inr m ↦ absurd (subst (λ (b : Bool). Among n (cond b (frame.number ∷ []) [])) m h)
    ]

pub is_pinned_by : (st : State) (q level : ℕ) (t : TileId) (frame : OpenFrame) → HasFrame st q frame → meets_tile st.k (active_in frame level) t ≡ true → IsPinned st level t
unfolding is_pinned pinner pinning_frames
is_pinned_by st q level t frame h m =
    let there : Among (pass_at st q) st.passes = among st.passes (pass_at st q) (Contains-get_or st.passes q Free (frame_there st q frame h)) in
    some_least (flat_map (λ pass. pins_of st.k level t (frame_of pass)) st.passes) frame.number (flat (λ pass. pins_of st.k level t (frame_of pass)) st.passes (pass_at st q) frame.number there (pinning_frame st.k level t (frame_of (pass_at st q)) frame h m))

pub pinned_by : (st : State) (level : ℕ) (t : TileId) → IsPinned st level t → (q : ℕ) × (frame : OpenFrame) × HasFrame st q frame × (meets_tile st.k (active_in frame level) t ≡ true)
unfolding is_pinned pinner pinning_frames
pinned_by st level t h =
    let n : (n : ℕ) × Among n (flat_map (λ pass. pins_of st.k level t (frame_of pass)) st.passes) = least_some (flat_map (λ pass. pins_of st.k level t (frame_of pass)) st.passes) h in
    let pass : (pass : Pass) × Among pass st.passes × Among n.0 (pins_of st.k level t (frame_of pass)) = flat_of (λ pass. pins_of st.k level t (frame_of pass)) st.passes n.0 n.1 in
    let at : Contains st.passes pass.0 = contained st.passes pass.0 pass.1 in
    let frame : (frame : OpenFrame) × (frame_of pass.0 ≡ Some frame) × (meets_tile st.k (active_in frame level) t ≡ true) = frame_pinning st.k level t (frame_of pass.0) n.0 pass.2 in
    (at.0, frame.0, ap frame_of (get_or_default st.passes at.0 Free pass.0 at.1 ∙ at.2) ∙ frame.1, frame.2)
