-- What all passes of a run together have done is a run.
use Rattle.std.proofs.Common.{◌≡◌, ℕ, ◌+◌, ◌<◌, ◌≤◌, ◌==◌, Bool, true, false, ◌&&◌, List, [], ◌⊎◌, map, length, inl, inr, refl, sym, ap, ◌∙◌, subst, arith}
use Rattle.std.proofs.lemmas.Bool.{cases_lt, cases_eq, cond-false, cond-true, eqb-true, ne_eqb, le-ltb, lt-ltb, lt-leb, le-leb, and_left, and_right, and_from}
use Rattle.std.proofs.lemmas.List.Elements.{All-nil, All-weaker, filter_passes}
use Rattle.std.proofs.lemmas.List.Sorted.{IsPermutation-map, IsPermutation-sym, IsPermutation-trans}
use Rattle.std.specs.List.{All}
use Rattle.std.specs.List.Sorted.{IsPermutation, IsNonDecreasingBy}
use Rattle.std.specs.Prelude.{nat_le, nat_lt}
use Rattle.plan_model.specs.States.{start_state, pass_at}
use Rattle.plan_model.specs.Histories.{HasNoEntryOf, IsLegalHistory, state_of_history}
use Rattle.plan_model.specs.declared.events.Entry.{Entry}
use Rattle.plan_model.specs.declared.events.Work.TheVariants.{Free}
use Rattle.gate_rule.specs.Flags.{flag}
use Rattle.clip_gate.specs.Passes.{PassView, ClipView, HasAllNumbers, IsSound}
use Rattle.swarm_laws.specs.Runs.{Place, Orders, entries_of, IsSwarmRun, IsCutRun}
use Rattle.swarm_laws.specs.Shares.{Share, share_of, no_share, moves_share, claims_share, begins_share, DoAll, IsPart}
use Rattle.swarm_laws.specs.Closings.{Closing, closings_in, closings_by}
use Rattle.swarm_laws.proofs.Own.{no_own, all_from_own}
use Rattle.swarm_laws.proofs.Adding.{orderly_none, none_all, all_bound}
use Rattle.swarm_laws.proofs.Frames.{low_closings, all_by_passes}
use Rattle.swarm_laws.proofs.Lengths.{low_passes, places_when_free}
use Rattle.swarm_laws.proofs.Whole.{whole_shares, cut_shares}
use Rattle.swarm_passes.specs.Frames.{FrameView, shown, AreFramesOf}
use Rattle.swarm_passes.specs.Playing.{GatheredBy}
use Rattle.swarm_passes.specs.Laws.{GatheredPassesAreRuns}

-- ---- shares by their parts
same_share : (m m' : List Place) (c c' b b' : ℕ) → m ≡ m' → c ≡ c' → b ≡ b' → (let s : Share = record { moves = m; claims = c; begins = b } in s) ≡ record { moves = m'; claims = c'; begins = b' }
same_share m m' c c' b b' em ec eb =
    ap (λ (x : List Place). share x c b) em ∙ ap (λ (x : ℕ). share m' x b) ec ∙ ap (λ (x : ℕ). share m' c' x) eb
  where
    share : List Place → ℕ → ℕ → Share
    share x y z = record { moves = x; claims = y; begins = z }

-- the mover's, a worker's and a renderer's, and that of a pass beyond
pub mover_share : (orders : Orders) → share_of orders 0 ≡ moves_share orders.moves
mover_share orders =
    same_share orders.moves orders.moves 0 0 _ 0 refl refl
    (cond-false (nat_le (1 + orders.workers) 0 && nat_lt 0 ((1 + orders.workers) + orders.renderers)) orders.begins 0
    (and_left (nat_le (1 + orders.workers) 0) (nat_lt 0 ((1 + orders.workers) + orders.renderers)) (lt-leb (1 + orders.workers) 0 (omega arith))))

not_first : (p : ℕ) → 0 < p → p ≡ 0 → ⊥
not_first p low e = omega arith

pub worker_share : (orders : Orders) (p : ℕ) → 0 < p → p ≤ orders.workers → share_of orders p ≡ claims_share orders.claims
worker_share orders p low high =
    same_share _ [] _ orders.claims _ 0
    (cond-false (p == 0) orders.moves [] (ne_eqb p 0 (not_first p low)))
    (cond-true (nat_le 1 p && nat_lt p (1 + orders.workers)) orders.claims 0 (and_from (nat_le 1 p) (nat_lt p (1 + orders.workers)) (le-leb 1 p (omega arith)) (lt-ltb p (1 + orders.workers) (omega arith))))
    (cond-false (nat_le (1 + orders.workers) p && nat_lt p ((1 + orders.workers) + orders.renderers)) orders.begins 0
    (and_left (nat_le (1 + orders.workers) p) (nat_lt p ((1 + orders.workers) + orders.renderers)) (lt-leb (1 + orders.workers) p (omega arith))))

pub renderer_share : (orders : Orders) (p : ℕ) → orders.workers < p → p < (1 + orders.workers) + orders.renderers → share_of orders p ≡ begins_share orders.begins
renderer_share orders p low high =
    same_share _ [] _ 0 _ orders.begins
    (cond-false (p == 0) orders.moves [] (ne_eqb p 0 (not_first p (omega arith))))
    (cond-false (nat_le 1 p && nat_lt p (1 + orders.workers)) orders.claims 0 (and_right (nat_le 1 p) (nat_lt p (1 + orders.workers)) (le-ltb p (1 + orders.workers) (omega arith))))
    (cond-true (nat_le (1 + orders.workers) p && nat_lt p ((1 + orders.workers) + orders.renderers)) orders.begins 0
    (and_from (nat_le (1 + orders.workers) p) (nat_lt p ((1 + orders.workers) + orders.renderers)) (le-leb (1 + orders.workers) p (omega arith)) (lt-ltb p ((1 + orders.workers) + orders.renderers) high)))

pub none_share : (orders : Orders) (p : ℕ) → (1 + orders.workers) + orders.renderers ≤ p → share_of orders p ≡ no_share
none_share orders p low =
    same_share _ [] _ 0 _ 0
    (cond-false (p == 0) orders.moves [] (ne_eqb p 0 (not_first p (omega arith))))
    (cond-false (nat_le 1 p && nat_lt p (1 + orders.workers)) orders.claims 0 (and_right (nat_le 1 p) (nat_lt p (1 + orders.workers)) (le-ltb p (1 + orders.workers) (omega arith))))
    (cond-false (nat_le (1 + orders.workers) p && nat_lt p ((1 + orders.workers) + orders.renderers)) orders.begins 0
    (and_right (nat_le (1 + orders.workers) p) (nat_lt p ((1 + orders.workers) + orders.renderers)) (le-ltb p ((1 + orders.workers) + orders.renderers) low)))

-- ---- all passes
module _ (orders : Orders) (clip : ClipView) (m : ℕ) (pass : PassView) (full : Bool) (frames : List FrameView)
    (many : m ≡ (1 + orders.workers) + orders.renderers) (few : m ≤ 16) (g : GatheredBy orders clip m m pass full frames) (s : IsSound pass) where
  log_legal : IsLegalHistory clip.size clip.land.levels pass.history
  log_legal = subst (λ (c : ClipView). IsLegalHistory c.size c.land.levels pass.history) g.clip s.legal

  low_all : All (λ e. e.pass < 16) pass.history
  low_all = low_passes clip.size clip.land.levels pass.history log_legal

  no_entry : (q : ℕ) → m ≤ q → HasNoEntryOf q pass.history
  no_entry q high = elim (cases_lt q 16) as (λ _. HasNoEntryOf q pass.history) [
    | inl under ↦ (s.unused q (g.left q high under)).entries
    | inr over ↦ All-weaker (λ (e : Entry). e.pass < 16) (λ (e : Entry). ¬ (e.pass ≡ q)) (λ e low is. absurd (omega arith)) pass.history low_all
  ]

  pub all_numbers : HasAllNumbers pass
  all_numbers q low = elim (cases_lt q m) as (λ _. (flag pass.numbers q ≡ true) ⊎ (flag pass.left q ≡ true)) [
    | inl under ↦ inl (g.numbers q under)
    | inr over ↦ inr (g.left q over low)
  ]

  free_all : (q : ℕ) → q < 16 → pass_at (state_of_history pass.clip.size pass.clip.land.levels pass.history) q ≡ Free
  free_all q low = elim (cases_lt q m) as (λ _. pass_at (state_of_history pass.clip.size pass.clip.land.levels pass.history) q ≡ Free) [
    | inl under ↦ elim (cases_eq q pass.number) as (λ _. pass_at (state_of_history pass.clip.size pass.clip.land.levels pass.history) q ≡ Free) [
      | inl own ↦ ap (λ (n : ℕ). pass_at (state_of_history pass.clip.size pass.clip.land.levels pass.history) n) own ∙ g.free
      | inr other ↦ s.idle q (g.numbers q under) other
    ]
    | inr over ↦ (s.unused q (g.left q over low)).idle
  ]

  part_all : (q : ℕ) → IsPart (share_of orders q) (entries_of q pass.history)
  part_all q = elim (cases_lt q m) as (λ _. IsPart (share_of orders q) (entries_of q pass.history)) [
    | inl under ↦ g.part q under
    | inr over ↦
        subst (λ sh. IsPart sh (entries_of q pass.history)) (sym (none_share orders q (omega arith)))
        (subst (λ own. IsPart no_share own) (sym (no_own q pass.history (no_entry q over))) (record { orderly = orderly_none; bound = all_bound no_share [] none_all }))
  ]

  do_all : full ≡ false → (q : ℕ) → DoAll (share_of orders q) (entries_of q pass.history)
  do_all e q = elim (cases_lt q m) as (λ _. DoAll (share_of orders q) (entries_of q pass.history)) [
    | inl under ↦ g.all e q under
    | inr over ↦
        subst (λ sh. DoAll sh (entries_of q pass.history)) (sym (none_share orders q (omega arith)))
        (subst (λ own. DoAll no_share own) (sym (no_own q pass.history (no_entry q over))) none_all)
  ]

  pub run_whole : full ≡ false → IsSwarmRun orders pass.history
  run_whole e = whole_shares orders pass.history low_all (λ q. (part_all q).orderly) (do_all e)

  pub run_cut : full ≡ true → IsCutRun orders pass.history
  run_cut e = let l = g.less e in cut_shares orders pass.history low_all part_all l.number (let b = l.low in omega arith) l.less

  pub run_long : full ≡ true → 1048575 ≤ length pass.history
  run_long e = let l = g.long e in let same = places_when_free pass.clip.size pass.clip.land.levels pass.history free_all in omega arith

  low_own : (q : ℕ) → All (λ e. e.pass < m) (entries_of q pass.history)
  low_own q = elim (cases_lt q m) as (λ _. All (λ e. e.pass < m) (entries_of q pass.history)) [
    | inl under ↦ All-weaker (λ (e : Entry). (e.pass == q) ≡ true) (λ (e : Entry). e.pass < m) (λ e is. let same = eqb-true e.pass q is in omega arith) (entries_of q pass.history) (filter_passes (λ (e : Entry). e.pass == q) pass.history)
    | inr over ↦ subst (All (λ e. e.pass < m)) (sym (no_own q pass.history (no_entry q over))) (All-nil (λ (e : Entry). e.pass < m))
  ]

  pub run_frames : (sorted : List FrameView) → IsNonDecreasingBy (λ frame. frame.number) sorted → IsPermutation frames sorted → AreFramesOf clip.land.terrain clip.size clip.land.levels pass.history sorted
  run_frames sorted rising same =
      let all : List Closing = closings_in clip.size clip.land.levels pass.history in
      let f = shown clip.land.terrain clip.size in
      let low = low_closings m (start_state clip.size clip.land.levels) pass.history (all_from_own (λ (e : Entry). e.pass < m) pass.history low_own) in
      let by : IsPermutation (closings_by m (closings_in clip.size clip.land.levels pass.history)) (closings_in clip.size clip.land.levels pass.history) = all_by_passes m (closings_in clip.size clip.land.levels pass.history) low in
      record {
        rising = rising;
        exact = IsPermutation-trans (map f (closings_in clip.size clip.land.levels pass.history)) frames sorted
            (subst (IsPermutation (map f (closings_in clip.size clip.land.levels pass.history))) (sym g.prints)
            (IsPermutation-map f (closings_in clip.size clip.land.levels pass.history) (closings_by m (closings_in clip.size clip.land.levels pass.history)) (IsPermutation-sym (closings_by m (closings_in clip.size clip.land.levels pass.history)) (closings_in clip.size clip.land.levels pass.history) by))) same;
      }

-- ---- so the history is a run
pub runs_of_all : GatheredPassesAreRuns
runs_of_all orders shared m pass full frames many few s g = (
  all_numbers orders shared m pass full frames many few g s,
  record {
    legal = log_legal orders shared m pass full frames many few g s;
    whole = run_whole orders shared m pass full frames many few g s;
    cut = run_cut orders shared m pass full frames many few g s;
    long = run_long orders shared m pass full frames many few g s;
    closed = run_frames orders shared m pass full frames many few g s;
  },
)
