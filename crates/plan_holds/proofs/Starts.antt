-- The state at the start: nothing is filled, and every pass is free.
use Rattle.std.proofs.Common.{◌≡◌, ℕ, zero, suc, replicate, get_or, Some, None, refl, ap, sym, ◌∙◌, subst, inl}
use Rattle.std.proofs.lemmas.Bool.{true≢false}
use Rattle.std.specs.List.{filter}
use Rattle.clip_regions.specs.Regions.{is_empty}
use Rattle.plan_model.specs.Limits.{IsSize}
use Rattle.plan_model.specs.States.{Level, OpenFrame, Pass, empty_level, start_state, level_at, pass_at, job_of, frame_of}
use Rattle.plan_model.specs.Tiles.{job_holds}
use Rattle.plan_model.specs.Claims.{is_finished, pieces_at}
use Rattle.plan_model.specs.declared.tiles.TileId.{TileId}
use Rattle.plan_model.specs.declared.events.JobNote.{JobNote}
use Rattle.plan_model.specs.declared.events.Work.TheVariants.{Free}
use Rattle.plan_holds.specs.Kept.{HasJob, HasFrame, HoldsTile}
use Rattle.plan_holds.specs.Laws.{KeptAtTheStart}
use Rattle.plan_holds.proofs.Parts.{none_finished}
use Rattle.plan_holds.proofs.Tiles.{holder_of}

-- a list of one element many times, read with that default
all_one : {X : Type 0} (n i : ℕ) (x : X) → get_or (replicate n x) i x ≡ x
all_one zero i x = refl
all_one (suc n) zero x = refl
all_one (suc n) (suc i) x = all_one n i x

level_empty : (k levels level : ℕ) → level_at (start_state k levels) level ≡ empty_level
unfolding start_state
level_empty k levels level = all_one levels level empty_level

pass_free : (k levels p : ℕ) → pass_at (start_state k levels) p ≡ Free
unfolding start_state
pass_free k levels p = all_one 16 p Free

no_job : (P : Type 0) (k levels p : ℕ) (job : JobNote) → HasJob (start_state k levels) p job → P
no_job P k levels p job e = let none : None ≡ Some job = sym (ap job_of (pass_free k levels p)) ∙ e in cc

no_frame : (P : Type 0) (k levels p : ℕ) (frame : OpenFrame) → HasFrame (start_state k levels) p frame → P
no_frame P k levels p frame e = let none : None ≡ Some frame = sym (ap frame_of (pass_free k levels p)) ∙ e in cc

nobody_holds : (k levels p level : ℕ) (t : TileId) → HoldsTile (start_state k levels) p level t → ⊥
nobody_holds k levels p level t h =
    true≢false (sym h ∙ ap (λ (pass : Pass). job_holds (start_state k levels).k level t (job_of pass)) (pass_free k levels p))

same_size : (k levels : ℕ) → (start_state k levels).k ≡ k
unfolding start_state
same_size k levels = refl

pub kept_at_the_start : KeptAtTheStart
unfolding is_empty
kept_at_the_start k levels size = record {
  size = subst IsSize (sym (same_size k levels)) size;
  inside = λ level h. inl (ap (λ (it : Level). is_empty it.filled) (level_empty k levels level));
  current = λ level h. subst (λ (it : Level). it.finished ≡ filter (is_finished it.finished) (pieces_at (start_state k levels) level)) (sym (level_empty k levels level)) (none_finished (pieces_at (start_state k levels) level));
  one_holder = λ level t p q h g. absurd (nobody_holds k levels p level t h);
  held = λ level t h g. let p : (p : ℕ) × HoldsTile (start_state k levels) p level t = holder_of (start_state k levels) level t h in nobody_holds k levels p.0 level t p.1;
  number = λ p frame e. no_frame _ k levels p frame e;
  one_frame = λ p q one other e f n. no_frame _ k levels p one e;
  jobs = λ p job e. no_job _ k levels p job e;
}
