-- A move.
use Rattle.std.proofs.Common.{◌≡◌, ℕ, ◌+◌, ◌<◌, Bool, true, false, cond, nat_le, ℤ, [], length, Option, None, refl, ap, sym, ◌∙◌, subst, inl, inr, arith}
use Rattle.std.proofs.lemmas.Int.{ints}
use Rattle.std.proofs.lemmas.Bool.{cases_Bool, and_parts, cond-true, cond-false}
use Rattle.std.proofs.lemmas.List.FromFn.{length-map-range_with_len, get_or-map-range_with_len}
use Rattle.std.specs.Bool.{beq}
use mathlib.Core.Path.{ap₂}
use Rattle.clip_regions.specs.declared.region.Region.{Region}
use Rattle.clip_regions.specs.Regions.{meet, holds}
use Rattle.plan_model.specs.Window.{window}
use Rattle.plan_model.specs.Strips.{current_strip}
use Rattle.plan_model.specs.States.{State, Level, empty_level, level_at, window_at, finest_used, is_used, same_region}
use Rattle.plan_model.specs.Steps.{seen_from, stays, moved_level, moved_levels, move_step}
use Rattle.plan_model.specs.declared.events.JobNote.{JobNote}
use Rattle.plan_holds.proofs.Places.{Known}
use Rattle.plan_holds.proofs.Parts.{LevelNow, IsFirst, KeepsLevel, KeepsJob, moved_to, moved_kept, moved_job}
use Rattle.plan_holds.proofs.Core.{now, Core, fits}
use Rattle.plan_holds.proofs.Levels.{level_by, now_is, first_by}
use Rattle.clip_regions.proofs.Cells.{HasCell, not_empty, Within, within, same_corners}

-- ---- windows with the same cells are one
one_region : (a b : Region) → HasCell a → HasCell b → same_region a b ≡ true → a ≡ b
unfolding same_region
one_region a b some other t =
    let parts : (holds a b ≡ true) × (holds b a ≡ true) = and_parts (holds a b) (holds b a) t in
    let outer : Within a b = within a b parts.0 (not_empty b other) in
    let inner : Within b a = within b a parts.1 (not_empty a some) in
    same_corners a b (omega (arith, ints)) (omega (arith, ints)) (omega (arith, ints)) (omega (arith, ints))

window_has_cell : (k level : ℕ) (x y : ℤ) → HasCell (window k level x y)
unfolding window
window_has_cell k level x y = record { across = omega (arith, ints); along = omega (arith, ints) }

same_test : (a b : Bool) → beq a b ≡ true → a ≡ b
same_test true true e = refl
same_test true false e = sym e
same_test false true e = e
same_test false false e = refl

-- ---- the state after a move
abbrev pub after_move : State → ℤ → ℤ → ℕ → State
after_move st x y a = record (seen_from st x y a) { levels = moved_levels st (seen_from st x y a) }

-- whether a level stays
abbrev pub keeps : State → ℤ → ℤ → ℕ → ℕ → Bool
keeps st x y a level = stays st (seen_from st x y a) level

-- the level after the move
abbrev pub level_then : State → ℤ → ℤ → ℕ → ℕ → Level
level_then st x y a level = moved_level (keeps st x y a level) (window st.k level x y) (level_at st level)

pub level_moved : (st : State) (x y : ℤ) (a level : ℕ) → level < length st.levels → level_at (after_move st x y a) level ≡ level_then st x y a level
level_moved st x y a level h =
    get_or-map-range_with_len (level_then st x y a) 0 (length st.levels) level level empty_level h (omega arith)

pub count_moved : (st : State) (x y : ℤ) (a : ℕ) → length (moved_levels st (seen_from st x y a)) ≡ length st.levels
count_moved st x y a = length-map-range_with_len (level_then st x y a) 0 (length st.levels)

now_moved : (st : State) (x y : ℤ) (a level : ℕ) → level < length st.levels → now (after_move st x y a) level ≡ level_by st.k (length st.levels) a level (window st.k level x y) (level_then st x y a level)
now_moved st x y a level h =
    now_is (after_move st x y a) level ∙ ap₂ (λ (n : ℕ) (it : Level). level_by st.k n a level (window st.k level x y) it) (count_moved st x y a) (level_moved st x y a level h)

-- ---- a level that stays
same_use : (st : State) (x y : ℤ) (a level : ℕ) → keeps st x y a level ≡ true → (window_at st level ≡ window st.k level x y) × (nat_le (finest_used st.k (length st.levels) st.altitude) level ≡ nat_le (finest_used st.k (length st.levels) a) level)
unfolding stays is_used
same_use st x y a level t =
    let parts : (same_region (window_at st level) (window st.k level x y) ≡ true) × (beq (nat_le (finest_used st.k (length st.levels) st.altitude) level) (nat_le (finest_used st.k (length st.levels) a) level) ≡ true) = and_parts (same_region (window_at st level) (window st.k level x y)) (beq (nat_le (finest_used st.k (length st.levels) st.altitude) level) (nat_le (finest_used st.k (length st.levels) a) level)) t in
    (one_region (window_at st level) (window st.k level x y) (window_has_cell st.k level st.x st.y) (window_has_cell st.k level x y) parts.0, same_test (nat_le (finest_used st.k (length st.levels) st.altitude) level) (nat_le (finest_used st.k (length st.levels) a) level) parts.1)

-- a level by its window and whether it is in use
used_level : Bool → Region → Level → LevelNow
used_level used window it = record {
  filled = it.filled;
  finished = it.finished;
  plan = it.plan;
  window = window;
  strip = cond used (current_strip it.filled window) None;
}

level_used : (k count altitude level : ℕ) (window : Region) (it : Level) → level_by k count altitude level window it ≡ used_level (nat_le (finest_used k count altitude) level) window it
unfolding level_by used_level
level_used k count altitude level window it = refl

stayed : (st : State) (x y : ℤ) (a level : ℕ) → level < length st.levels → keeps st x y a level ≡ true → now (after_move st x y a) level ≡ now st level
unfolding moved_level
stayed st x y a level h t =
    let same : (window_at st level ≡ window st.k level x y) × (nat_le (finest_used st.k (length st.levels) st.altitude) level ≡ nat_le (finest_used st.k (length st.levels) a) level) = same_use st x y a level t in
    let it : level_then st x y a level ≡ level_at st level = cond-true (keeps st x y a level) (level_at st level) _ t in
    now_moved st x y a level h ∙ level_used st.k (length st.levels) a level (window st.k level x y) (level_then st x y a level) ∙ ap (used_level (nat_le (finest_used st.k (length st.levels) a) level) (window st.k level x y)) it ∙ ap₂ (λ (used : Bool) (w : Region). used_level used w (level_at st level)) (sym same.1) (sym same.0) ∙ sym (level_used st.k (length st.levels) st.altitude level (window_at st level) (level_at st level)) ∙ sym (now_is st level)

-- ---- a level that changes
abbrev pub cut_level : Region → Level → Level
cut_level w old = record { filled = meet old.filled w; finished = []; plan = old.plan + 1 }

strip_then : State → ℤ → ℤ → ℕ → ℕ → Option Region
strip_then st x y a level =
    (level_by st.k (length st.levels) a level (window st.k level x y) (cut_level (window st.k level x y) (level_at st level))).strip

cut_is : (st : State) (x y : ℤ) (a level : ℕ) → level_by st.k (length st.levels) a level (window st.k level x y) (cut_level (window st.k level x y) (level_at st level)) ≡ moved_to (now st level) (window st.k level x y) (strip_then st x y a level)
unfolding level_by strip_then
cut_is st x y a level = refl

first_then : (st : State) (x y : ℤ) (a level : ℕ) → IsFirst (moved_to (now st level) (window st.k level x y) (strip_then st x y a level))
unfolding level_by strip_then
first_then st x y a level = first_by st.k (length st.levels) a level (window st.k level x y) (cut_level (window st.k level x y) (level_at st level))

moved : (st : State) (x y : ℤ) (a level : ℕ) → level < length st.levels → keeps st x y a level ≡ false → now (after_move st x y a) level ≡ moved_to (now st level) (window st.k level x y) (strip_then st x y a level)
unfolding moved_level
moved st x y a level h f =
    let it : level_then st x y a level ≡ cut_level (window st.k level x y) (level_at st level) = cond-false (keeps st x y a level) _ (cut_level (window st.k level x y) (level_at st level)) f in
    now_moved st x y a level h ∙ ap (level_by st.k (length st.levels) a level (window st.k level x y)) it ∙ cut_is st x y a level

-- ---- what holds
move_level : Known → (st : State) (x y : ℤ) (a level : ℕ) → Core st → level < length st.levels → KeepsLevel st.k (now (after_move st x y a) level)
move_level known st x y a level core h =
    elim (cases_Bool (keeps st x y a level)) [
      | inl t ↦ subst (KeepsLevel st.k) (sym (stayed st x y a level h t)) (core.levels level h)
      | inr f ↦ subst (KeepsLevel st.k) (sym (moved st x y a level h f)) (moved_kept st.k (now st level) (window st.k level x y) (strip_then st x y a level) (fits known (after_move st x y a) level core.size) (first_then st x y a level))
    ]

move_job : (st : State) (x y : ℤ) (a p : ℕ) (job : JobNote) → Core st → job.level < length st.levels → KeepsJob st.k (now st job.level) job → KeepsJob st.k (now (after_move st x y a) job.level) job
move_job st x y a p job core h keeps' =
    elim (cases_Bool (keeps st x y a job.level)) [
      | inl t ↦ subst (λ (v : LevelNow). KeepsJob st.k v job) (sym (stayed st x y a job.level h t)) keeps'
      | inr f ↦ subst (λ (v : LevelNow). KeepsJob st.k v job) (sym (moved st x y a job.level h f)) (moved_job st.k (now st job.level) (window st.k job.level x y) (strip_then st x y a job.level) job keeps')
    ]

pub move_core : Known → (st : State) (x y : ℤ) (a : ℕ) → Core st → Core (move_step st x y a).state
unfolding move_step
move_core known st x y a core = record {
  size = core.size;
  levels = λ level h. move_level known st x y a level core (subst (λ (n : ℕ). level < n) (count_moved st x y a) h);
  there = λ p job e. subst (λ (n : ℕ). job.level < n) (sym (count_moved st x y a)) (core.there p job e);
  jobs = λ p job e. move_job st x y a p job core (core.there p job e) (core.jobs p job e);
  once = core.once;
  unpinned = core.unpinned;
  number = core.number;
  one_frame = core.one_frame;
}
