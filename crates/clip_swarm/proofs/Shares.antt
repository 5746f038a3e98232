-- What a pass that starts does of its share, and what comes of one pass after the other.
use Rattle.std.proofs.Common.{◌≡◌, ℕ, ◌+◌, ◌<◌, ◌≤◌, Bool, List, [], ◌++◌, map, refl, sym, ap, ◌∙◌, subst, arith}
use Rattle.std.proofs.lemmas.List.Elements.{All-nil}
use Rattle.plan_model.specs.Histories.{HasNoEntryOf}
use Rattle.plan_model.specs.declared.events.Entry.{Entry}
use Rattle.plan_model.specs.declared.events.Work.TheVariants.{Free}
use Rattle.plan_histories.proofs.PassLaws.{no_entry_no_part}
use Rattle.clip_gate.specs.Passes.{PassView, ClipView, part_of}
use Rattle.swarm_laws.specs.Runs.{Orders}
use Rattle.swarm_laws.specs.Shares.{Share, share_of, moves_share, claims_share, begins_share}
use Rattle.swarm_passes.specs.Frames.{FrameView, shown}
use Rattle.swarm_passes.specs.Going.{Goes}
use Rattle.swarm_passes.specs.Drawing.{Renders}
use Rattle.swarm_passes.specs.Playing.{IsStarted, PlayedBy}
use Rattle.swarm_passes.proofs.Started.{played}
use Rattle.swarm_passes.proofs.Finished.{mover_share, worker_share, renderer_share}

-- a pass that has made no event has nothing
pub started_free : (shared : ClipView) (n : ℕ) (pass : PassView) → IsStarted shared n pass → part_of pass ≡ Free
started_free shared n pass s =
    no_entry_no_part pass.clip.size pass.clip.land.levels pass.history pass.number (subst (λ (log : List Entry). HasNoEntryOf pass.number log) (sym s.history) (All-nil (λ (e : Entry). e.pass ≡ pass.number → ⊥)))

module _ (orders : Orders) (shared : ClipView) (full : Bool) (old new : PassView) (s : IsStarted shared old.number old) where
  pub mover_played : old.number ≡ 0 → Goes (moves_share orders.moves) full [] old new → (frames : List FrameView) → frames ≡ [] → PlayedBy orders shared old.number new full frames
  mover_played first g frames none =
      played orders shared old.number (moves_share orders.moves) full [] old new frames (ap (share_of orders) first ∙ mover_share orders) s.clip refl s.history g none

  pub worker_played : 0 < old.number → old.number ≤ orders.workers → Goes (claims_share orders.claims) full [] old new → (frames : List FrameView) → frames ≡ [] → PlayedBy orders shared old.number new full frames
  worker_played low high g frames none =
      played orders shared old.number (claims_share orders.claims) full [] old new frames (worker_share orders old.number low high) s.clip refl s.history g none

  pub renderer_played : orders.workers < old.number → old.number < (1 + orders.workers) + orders.renderers → (none frames : List FrameView) → none ≡ [] → Renders (begins_share orders.begins) full old new none frames → PlayedBy orders shared old.number new full frames
  renderer_played low high none frames empty r =
      played orders shared old.number (begins_share orders.begins) full r.closed old new frames (renderer_share orders old.number low high) s.clip refl s.history r.goes
      (subst (λ (fs : List FrameView). frames ≡ fs ++ map (shown old.clip.land.terrain old.clip.size) r.closed) empty r.prints)
