-- What came of each pass, in the order of their numbers.
use Rattle.std.proofs.Common.{◌≡◌, ℕ, suc, ◌+◌, ◌<◌, Bool, List, [], ◌∷◌, length, slice_index_or, IfOk, refl, subst, arith}
use Rattle.std.specs.Prelude.{Result}
use Rattle.obj_frames.specs.declared.memory.NoMemory.{NoMemory}
use Rattle.clip_gate.specs.Passes.{PassView, ClipView}
use Rattle.swarm_laws.specs.Runs.{Orders}
use Rattle.swarm_passes.specs.Playing.{IsStarted, AreStarted, FirstLeaves}
use Rattle.swarm_passes.proofs.Started.{started_at}
use Rattle.clip_swarm.specs.Playing.{IsPlayed, ArePlayed, FirstHasLeft}
use Rattle.clip_swarm.specs.declared.crew.Outcome.{Outcome}

-- ---- before
-- a pass of a list of passes that start
pub record Starts (shared : ClipView) (m : ℕ) (pass : PassView) : Type 0 where
  pub started : IsStarted shared pass.number pass
  pub high : pass.number < m

pub starts_at : (shared : ClipView) (m i : ℕ) (passes : List PassView) (pass : PassView) → length passes ≡ m → AreStarted shared 0 passes → i < length passes → pass ≡ slice_index_or passes i pass → Starts shared m pass
starts_at shared m i passes pass many all low is =
    let s : IsStarted shared (0 + i) pass = started_at shared 0 i passes pass all low is in
    let number : pass.number ≡ 0 + i = s.number in
    record { started = record { clip = s.clip; number = refl; history = s.history }; high = omega arith }

-- ---- after
-- what came of one pass
pub record CameOf (orders : Orders) (shared : ClipView) (pass : PassView) (r : Result Outcome NoMemory) : Type 0 where
  pub played : IfOk r (IsPlayed orders shared pass.number)
  pub left : IfOk r (λ outcome. outcome.pass.left ≡ pass.left)

pub are_played : (orders : Orders) (shared : ClipView) (n : ℕ) (passes : List PassView) (rs : List (Result Outcome NoMemory)) → length rs ≡ length passes → AreStarted shared n passes
    → ((i : ℕ) (d : PassView) (e : Result Outcome NoMemory) → i < length passes → CameOf orders shared (slice_index_or passes i d) (slice_index_or rs i e)) → ArePlayed orders shared n rs
are_played orders shared n [] [] many s f = tt
are_played orders shared n [] (r ∷ rs) many s f = absurd (omega arith)
are_played orders shared n (p ∷ passes) [] many s f = absurd (omega arith)
are_played orders shared n (p ∷ passes) (r ∷ rs) many s f = (
  subst (λ (m : ℕ). IfOk r (IsPlayed orders shared m)) s.0.number (f 0 p r (omega arith)).played,
  are_played orders shared (n + 1) passes rs (omega arith) s.1 (λ i d e low. f (suc i) d e (omega arith)),
)

pub first_left : (orders : Orders) (shared : ClipView) (left : List Bool) (passes : List PassView) (rs : List (Result Outcome NoMemory)) → length rs ≡ length passes → FirstLeaves left passes
    → ((i : ℕ) (d : PassView) (e : Result Outcome NoMemory) → i < length passes → CameOf orders shared (slice_index_or passes i d) (slice_index_or rs i e)) → FirstHasLeft left rs
first_left orders shared left [] rs many s f = absurd s
first_left orders shared left (p ∷ passes) [] many s f = absurd (omega arith)
first_left orders shared left (p ∷ passes) (r ∷ rs) many s f = subst (λ (fs : List Bool). IfOk r (λ outcome. outcome.pass.left ≡ fs)) s (f 0 p r (omega arith)).left
