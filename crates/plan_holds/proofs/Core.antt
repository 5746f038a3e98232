-- What holds of a state, pass by pass: what each event keeps, and what the public record says the same by.
use Rattle.std.proofs.Common.{◌≡◌, ℕ, ◌<◌, ◌≤◌, true, false, not, length, Option, Some, None, refl, sym, ◌∙◌, subst, arith}
use Rattle.std.proofs.lemmas.Bool.{cond_both, not-true, not_from_false, true≢false, false_from_ne_true}
use Rattle.clip_regions.specs.declared.region.Region.{Region}
use Rattle.plan_model.specs.Limits.{IsSize}
use Rattle.plan_model.specs.Blocks.{tile_of_cell}
use Rattle.plan_model.specs.Strips.{current_strip}
use Rattle.plan_model.specs.States.{State, OpenFrame, level_at, filled_at, window_at, is_used}
use Rattle.plan_model.specs.Tiles.{meets_tile, IsHeld, IsPinned}
use Rattle.plan_model.specs.Claims.{strip_at, pieces_at, unfinished_pieces, is_finished}
use Rattle.plan_model.specs.declared.tiles.TileId.{TileId}
use Rattle.plan_model.specs.declared.tiles.Piece.{Piece}
use Rattle.plan_model.specs.declared.events.JobNote.{JobNote}
use Rattle.plan_holds.specs.Apart.{AreApart}
use Rattle.plan_holds.specs.Kept.{HasJob, HasFrame, HoldsTile, active_in, IsJobKept, IsKept}
use Rattle.plan_holds.proofs.Members.{Among, all_among, among_all, among, contained, passed, passing}
use Rattle.plan_holds.proofs.Places.{Known, one_place_tile, meets}
use Rattle.plan_holds.proofs.Parts.{LevelNow, IsFit, IsFirst, KeepsLevel, KeepsJob, tile, cell_tile, finished_apart}
use Rattle.plan_holds.proofs.Tiles.{holding, held_by_job, is_held_by, holder_of, is_pinned_by, pinned_by}

-- a level of a state, with its window and its current strip
abbrev pub now : State → ℕ → LevelNow
now st level = record {
  filled = filled_at st level;
  finished = (level_at st level).finished;
  plan = (level_at st level).plan;
  window = window_at st level;
  strip = strip_at st level;
}

pub record Core (st : State) : Type 0 where
  pub size : IsSize st.k
  pub levels : (level : ℕ) → level < length st.levels → KeepsLevel st.k (now st level)
  pub there : (p : ℕ) (job : JobNote) → HasJob st p job → job.level < length st.levels
  pub jobs : (p : ℕ) (job : JobNote) → HasJob st p job → KeepsJob st.k (now st job.level) job
  pub once : (p q : ℕ) (a b : JobNote) → HasJob st p a → HasJob st q b → a.level ≡ b.level → tile st.k a.piece ≡ tile st.k b.piece → p ≡ q
  pub unpinned : (p q : ℕ) (job : JobNote) (frame : OpenFrame) → HasJob st p job → HasFrame st q frame → meets_tile st.k (active_in frame job.level) (tile st.k job.piece) ≡ false
  pub number : (p : ℕ) (frame : OpenFrame) → HasFrame st p frame → frame.number < st.begun
  pub one_frame : (p q : ℕ) (one other : OpenFrame) → HasFrame st p one → HasFrame st q other → one.number ≡ other.number → p ≡ q

-- ---- a level's strip and window, whatever they are
pub first_strip : (st : State) (level : ℕ) → IsFirst (now st level)
unfolding strip_at
first_strip st level s =
    cond_both (is_used st level) (current_strip (filled_at st level) (window_at st level)) None (λ (o : Option Region). o ≡ Some s → current_strip (filled_at st level) (window_at st level) ≡ Some s) (λ used. λ (e : current_strip (filled_at st level) (window_at st level) ≡ Some s). e) (λ left_out. λ (e : None ≡ Some s). absurd (cc))

pub fits : Known → (st : State) (level : ℕ) → IsSize st.k → IsFit st.k (window_at st level)
fits known st level size i j i' j' here there e =
    let large : 4 ≤ st.k = size.low in
    known.fit st.k level st.x st.y i j i' j' (omega arith) here there e

-- ---- from the public record
pub unfinished : (st : State) (level : ℕ) (q : Piece) → Among q (unfinished_pieces st level) → Among q (pieces_at st level) × (is_finished (level_at st level).finished q ≡ false)
unfolding unfinished_pieces
unfinished st level q h =
    let both : Among q (pieces_at st level) × (not (is_finished (level_at st level).finished q) ≡ true) = passed (λ piece. not (is_finished (level_at st level).finished piece)) (pieces_at st level) q h in
    (both.0, not-true (is_finished (level_at st level).finished q) both.1)

is_unfinished : (st : State) (level : ℕ) (q : Piece) → Among q (pieces_at st level) → is_finished (level_at st level).finished q ≡ false → Among q (unfinished_pieces st level)
unfolding unfinished_pieces
is_unfinished st level q h e =
    passing (λ piece. not (is_finished (level_at st level).finished piece)) (pieces_at st level) q h (not_from_false (is_finished (level_at st level).finished q) e)

core_level : Known → (st : State) (level : ℕ) → IsKept st → level < length st.levels → KeepsLevel st.k (now st level)
core_level known st level kept h = record {
  inside = kept.inside level h;
  first = first_strip st level;
  fit = fits known st level kept.size;
  finished = kept.current level h;
}

core_job : (st : State) (job : JobNote) → IsJobKept st job → KeepsJob st.k (now st job.level) job
core_job st job kept = record {
  in_block = kept.block;
  plan = kept.plan;
  fresh = λ e. unfinished st job.level job.piece (among (unfinished_pieces st job.level) job.piece (kept.fresh e));
  stale = λ other q m. among_all (λ piece. ¬ (tile st.k piece ≡ tile st.k job.piece)) (level_at st job.level).finished q (kept.stale other) m;
  apart = kept.filled;
}

pub core_of : Known → (st : State) → IsKept st → Core st
core_of known st kept = record {
  size = kept.size;
  levels = λ level h. core_level known st level kept h;
  there = λ p job h. (kept.jobs p job h).level;
  jobs = λ p job h. core_job st job (kept.jobs p job h);
  once = λ p q a b h g l e. kept.one_holder a.level (tile st.k a.piece) p q (holding st p a a.level (tile st.k a.piece) h refl refl) (holding st q b a.level (tile st.k a.piece) g (sym l) (sym e));
  unpinned = λ p q job frame h g. false_from_ne_true (meets_tile st.k (active_in frame job.level) (tile st.k job.piece)) (λ t. kept.held job.level (tile st.k job.piece) (is_held_by st p job h) (is_pinned_by st q job.level (tile st.k job.piece) frame g t));
  number = kept.number;
  one_frame = kept.one_frame;
}

-- ---- and to it
drawn_apart : Known → (st : State) → Core st → (p q : ℕ) (job : JobNote) (frame : OpenFrame) → HasJob st p job → HasFrame st q frame → AreApart st.k (active_in frame job.level) job.piece.cells
drawn_apart known st core p q job frame h g i j i' j' here there e =
    let large : 4 ≤ st.k = core.size.low in
    let one : tile_of_cell st.k i j ≡ tile st.k job.piece = one_place_tile st.k i j i' j' e ∙ cell_tile known st.k job.piece i' j' (omega arith) (core.jobs p job h).in_block there in
    true≢false (sym (meets known.tiles st.k (active_in frame job.level) (tile st.k job.piece) i j (omega arith) here one) ∙ core.unpinned p q job frame h g)

kept_job : Known → (st : State) → Core st → (p : ℕ) (job : JobNote) → HasJob st p job → IsJobKept st job
kept_job known st core p job h =
    let large : 4 ≤ st.k = core.size.low in
    let keeps : KeepsJob st.k (now st job.level) job = core.jobs p job h in
    record {
      level = core.there p job h;
      block = keeps.in_block;
      plan = keeps.plan;
      fresh = λ e. let new : Among job.piece (pieces_at st job.level) × (is_finished (level_at st job.level).finished job.piece ≡ false) = keeps.fresh e in contained (unfinished_pieces st job.level) job.piece (is_unfinished st job.level job.piece new.0 new.1);
      stale = λ other. all_among (λ piece. ¬ (tile st.k piece ≡ tile st.k job.piece)) (level_at st job.level).finished (λ q m. keeps.stale other q m);
      filled = keeps.apart;
      finished = all_among (λ piece. AreApart st.k piece.cells job.piece.cells) (level_at st job.level).finished (λ q m. finished_apart known st.k (now st job.level) job q (omega arith) (core.levels job.level (core.there p job h)) keeps m);
      drawn = λ q frame g. drawn_apart known st core p q job frame h g;
    }

one_holder : (st : State) → Core st → (level : ℕ) (t : TileId) (p q : ℕ) → HoldsTile st p level t → HoldsTile st q level t → p ≡ q
one_holder st core level t p q h g =
    let a : (job : JobNote) × HasJob st p job × (job.level ≡ level) × (tile st.k job.piece ≡ t) = held_by_job st p level t h in
    let b : (job : JobNote) × HasJob st q job × (job.level ≡ level) × (tile st.k job.piece ≡ t) = held_by_job st q level t g in
    core.once p q a.0 b.0 a.1 b.1 (a.2 ∙ sym b.2) (a.3 ∙ sym b.3)

held_unpinned : (st : State) → Core st → (level : ℕ) (t : TileId) → IsHeld st level t → ¬ IsPinned st level t
held_unpinned st core level t h g =
    let p : (p : ℕ) × HoldsTile st p level t = holder_of st level t h in
    let a : (job : JobNote) × HasJob st p.0 job × (job.level ≡ level) × (tile st.k job.piece ≡ t) = held_by_job st p.0 level t p.1 in
    let q : (q : ℕ) × (frame : OpenFrame) × HasFrame st q frame × (meets_tile st.k (active_in frame level) t ≡ true) = pinned_by st level t g in
    let there : meets_tile st.k (active_in q.1 a.0.level) (tile st.k a.0.piece) ≡ true = subst (λ (l : ℕ). meets_tile st.k (active_in q.1 l) (tile st.k a.0.piece) ≡ true) (sym a.2) (subst (λ (u : TileId). meets_tile st.k (active_in q.1 level) u ≡ true) (sym a.3) q.3) in
    true≢false (sym there ∙ core.unpinned p.0 q.0 a.0 q.1 a.1 q.2)

pub kept_of : Known → (st : State) → Core st → IsKept st
kept_of known st core = record {
  size = core.size;
  inside = λ level h. (core.levels level h).inside;
  current = λ level h. (core.levels level h).finished;
  one_holder = one_holder st core;
  held = held_unpinned st core;
  number = core.number;
  one_frame = core.one_frame;
  jobs = kept_job known st core;
}
