-- What every step of a round keeps, the round keeps.
use Rattle.std.proofs.Common.{◌≡◌, ℕ, zero, suc, true, List, [], ◌∷◌, length}
use Rattle.std.proofs.lemmas.Bool.{cond_both}
use Rattle.std.proofs.lemmas.List.Elements.{All-head, All-tail}
use Rattle.std.specs.List.{All, fold, range_with_len}
use Rattle.std.specs.Option.{is_some}
use Rattle.plan_model.specs.States.{pass_at, job_of, frame_of, from_coarsest}
use Rattle.plan_model.specs.Steps.{step}
use Rattle.plan_model.specs.Histories.{Run, then_step}
use Rattle.plan_model.specs.Rounds.{frame_pass, is_job, claims, finish_of, finishes, ending, is_ripe, publish_of, publishes, round, is_settled, rounds}
use Rattle.plan_model.specs.declared.events.Event.TheVariants.{Claim, Finish, Publish, End}

-- claims of the passes of a kind, jobs given back, a frame that ends and publications of ripe levels keep P
pub record Closed (Ok : ℕ → Type 0) (P : Run → Type 0) : Type 0 where
  pub claim : (r : Run) (p : ℕ) → Ok p → P r → P (then_step r p Claim)
  pub finish : (r : Run) (p : ℕ) → is_some (job_of (pass_at r.state p)) ≡ true → P r → P (then_step r p Finish)
  pub close : (r : Run) → is_some (frame_of (pass_at r.state frame_pass)) ≡ true → P r → P (then_step r frame_pass End)
  pub publish : (r : Run) (level : ℕ) → is_ripe r.state level ≡ true → P r → P (then_step r 0 (Publish level))

-- what the claims alone keep
pub claims_keep : (Ok : ℕ → Type 0) (P : Run → Type 0) → ((r : Run) (p : ℕ) → Ok p → P r → P (then_step r p Claim)) → (r : Run) (ps : List ℕ) → All Ok ps → P r → P (claims r ps)
claims_keep Ok P claim r [] ok h = h
claims_keep Ok P claim r (p ∷ rest) ok h =
    let next : P (then_step r p Claim) = claim r p (All-head Ok p rest ok) h in
    cond_both (is_job (step r.state p Claim).answer) (claims (then_step r p Claim) rest) (then_step r p Claim) P (λ _. claims_keep Ok P claim (then_step r p Claim) rest (All-tail Ok p rest ok) next) (λ _. next)

module _ (Ok : ℕ → Type 0) (P : Run → Type 0) (closed : Closed Ok P) where
  pub by_claims : (r : Run) (ps : List ℕ) → All Ok ps → P r → P (claims r ps)
  by_claims r ps ok h = claims_keep Ok P closed.claim r ps ok h

  pub by_finish : (r : Run) (p : ℕ) → P r → P (finish_of r p)
  unfolding finish_of
  by_finish r p h = cond_both (is_some (job_of (pass_at r.state p))) (then_step r p Finish) r P (λ e. closed.finish r p e h) (λ _. h)

  pub by_finishes : (ps : List ℕ) (r : Run) → P r → P (fold finish_of r ps)
  by_finishes [] r h = h
  by_finishes (p ∷ rest) r h = by_finishes rest (finish_of r p) (by_finish r p h)

  pub by_ending : (r : Run) → P r → P (ending r)
  unfolding ending
  by_ending r h =
      cond_both (is_some (frame_of (pass_at r.state frame_pass))) (then_step r frame_pass End) r P (λ e. closed.close r e h) (λ _. h)

  pub by_publish : (r : Run) (level : ℕ) → P r → P (publish_of r level)
  unfolding publish_of
  by_publish r level h =
      cond_both (is_ripe r.state level) (then_step r 0 (Publish level)) r P (λ e. closed.publish r level e h) (λ _. h)

  pub by_publishes : (levels : List ℕ) (r : Run) → P r → P (fold publish_of r levels)
  by_publishes [] r h = h
  by_publishes (level ∷ rest) r h = by_publishes rest (publish_of r level) (by_publish r level h)

  -- the end of a round, after the jobs were given back
  pub by_end : (r : Run) → P r → P (publishes (ending r))
  unfolding publishes
  by_end r h = by_publishes (from_coarsest (ending r).state) (ending r) (by_ending r h)

  pub by_rest : (r : Run) → P r → P (publishes (ending (finishes r)))
  unfolding finishes
  by_rest r h = by_end (fold finish_of r (range_with_len 0 (length r.state.passes))) (by_finishes (range_with_len 0 (length r.state.passes)) r h)

  pub by_round : (workers : ℕ) (r : Run) → All Ok (range_with_len 0 workers) → P r → P (round workers r)
  unfolding round
  by_round workers r ok h = by_rest (claims r (range_with_len 0 workers)) (by_claims r (range_with_len 0 workers) ok h)

  pub by_rounds : (n workers : ℕ) (r : Run) → All Ok (range_with_len 0 workers) → P r → P (rounds n workers r)
  by_rounds zero workers r ok h = h
  by_rounds (suc n) workers r ok h =
      cond_both (is_settled r.state) r (rounds n workers (round workers r)) P (λ _. h) (λ _. by_rounds n workers (round workers r) ok (by_round workers r ok h))
