-- Passes that have made no event, and what one that made its share has done.
use Rattle.std.proofs.Common.{◌≡◌, ℕ, zero, suc, ◌+◌, ◌<◌, Bool, List, [], ◌∷◌, ◌++◌, map, length, slice_index_or, sym, ap, ◌∙◌, subst, arith}
use Rattle.plan_model.specs.declared.events.Entry.{Entry}
use Rattle.gate_rule.specs.Flags.{without, least, how_many}
use Rattle.clip_gate.specs.Passes.{PassView, ClipView, first_pass}
use Rattle.clip_gate.specs.Calls.{IsSplit}
use Rattle.swarm_laws.specs.Runs.{Orders, entries_of}
use Rattle.swarm_laws.specs.Shares.{Share, share_of, DoAll, DoLess, IsPart}
use Rattle.swarm_laws.specs.Closings.{Closing, closings_of, closings_in}
use Rattle.swarm_passes.specs.Frames.{FrameView, shown}
use Rattle.swarm_passes.specs.Going.{own_of, closed_of, Goes}
use Rattle.swarm_passes.specs.Playing.{left_from, IsStarted, AreStarted, PlayedBy}
use Rattle.swarm_passes.proofs.Numbers.{least_left, left_more, some_left}

-- ---- passes that are split off
pub first_started : (shared : ClipView) (pass : PassView) → pass ≡ first_pass shared → IsStarted shared 0 pass
first_started shared pass is = record { clip = ap (λ (p : PassView). p.clip) is; number = ap (λ (p : PassView). p.number) is; history = ap (λ (p : PassView). p.history) is }

pub started_more : (shared : ClipView) (n : ℕ) (passes : List PassView) (pass : PassView) → AreStarted shared n passes → IsStarted shared (n + length passes) pass → AreStarted shared n (passes ++ pass ∷ [])
started_more shared n [] pass before s = let e : n + 0 ≡ n = omega arith in (subst (λ (m : ℕ). IsStarted shared m pass) e s, tt)
started_more shared n (p ∷ passes) pass before s =
    let e : n + length (p ∷ passes) ≡ (n + 1) + length passes = omega arith in
    (before.0, started_more shared (n + 1) passes pass before.1 (subst (λ (m : ℕ). IsStarted shared m pass) e s))

pub started_at : (shared : ClipView) (n i : ℕ) (passes : List PassView) (pass : PassView) → AreStarted shared n passes → i < length passes → pass ≡ slice_index_or passes i pass → IsStarted shared (n + i) pass
started_at shared n i [] pass all low is = absurd (omega arith)
started_at shared n zero (p ∷ passes) pass all low is = let e : n ≡ n + 0 = omega arith in subst (λ (m : ℕ). IsStarted shared m pass) e (subst (λ (q : PassView). IsStarted shared n q) (sym is) all.0)
started_at shared n (suc i) (p ∷ passes) pass all low is =
    let e : (n + 1) + i ≡ n + suc i = omega arith in subst (λ (m : ℕ). IsStarted shared m pass) e (started_at shared (n + 1) i passes pass all.1 (omega arith) is)

pub record Split (shared : ClipView) (n : ℕ) (kept given : PassView) : Type 0 where
  pub first : IsStarted shared 0 kept
  pub left : kept.left ≡ left_from (suc n)
  pub other : IsStarted shared n given

pub split_started : (shared : ClipView) (n : ℕ) (old kept given : PassView) → n < 16 → IsStarted shared 0 old → old.left ≡ left_from n → IsSplit old kept given → Split shared n kept given
split_started shared n old kept given low s left split = record {
  first = record {
    clip = ap (λ (p : PassView). p.clip) split.loses ∙ s.clip;
    number = ap (λ (p : PassView). p.number) split.loses ∙ s.number;
    history = ap (λ (p : PassView). p.history) split.loses ∙ s.history;
  };
  left = ap (λ (p : PassView). p.left) split.loses ∙ ap (λ (fs : List Bool). without fs (least fs)) left ∙ ap (λ (k : ℕ). without (left_from n) k) (least_left n low) ∙ left_more n low;
  other = record {
    clip = split.clip ∙ s.clip;
    number = split.number ∙ ap least left ∙ least_left n low;
    history = split.history ∙ s.history;
  };
}

pub none_out : (n : ℕ) (old : PassView) → n < 16 → old.left ≡ left_from n → how_many old.left ≡ 0 → ⊥
none_out n old low left none = some_left n low (ap how_many (sym left) ∙ none)

-- ---- a share that was done from the start on
pub played : (orders : Orders) (shared : ClipView) (n : ℕ) (share : Share) (full : Bool) (closed : List Closing) (old new : PassView) (frames : List FrameView) → share_of orders n ≡ share → old.clip ≡ shared → old.number ≡ n → old.history ≡ []
    → Goes share full closed old new → frames ≡ map (shown old.clip.land.terrain old.clip.size) closed → PlayedBy orders shared n new full frames
played orders shared n share full closed old new frames asked clip number none g prints =
    let own : own_of new ≡ g.entries = g.own ∙ ap (λ (log : List Entry). entries_of old.number log ++ g.entries) none in
    let closes : closed_of new ≡ closed = g.closes ∙ ap (λ (log : List Entry). closings_of old.number (closings_in old.clip.size old.clip.land.levels log) ++ closed) none in
    record {
      clip = g.same.clip ∙ clip;
      number = g.same.number ∙ number;
      free = g.free;
      part = subst (λ (s : Share). IsPart s (own_of new)) (sym asked) (subst (λ (es : List Entry). IsPart share es) (sym own) (record { orderly = g.orderly; bound = g.bound }));
      all = λ e. subst (λ (s : Share). DoAll s (own_of new)) (sym asked) (subst (λ (es : List Entry). DoAll share es) (sym own) (g.all e));
      less = λ e. subst (λ (s : Share). DoLess s (own_of new)) (sym asked) (subst (λ (es : List Entry). DoLess share es) (sym own) (g.less e));
      long = g.long;
      prints = prints ∙ ap (λ (c : ClipView). map (shown c.land.terrain c.size) closed) clip ∙ ap (map (shown shared.land.terrain shared.size)) (sym closes);
    }
