-- What a clip tells of the script and of the terrain that it was started for.
use Rattle.std.proofs.Common.{◌≡◌, ℕ, ◌≤◌, List, length, sym, ap, ◌∙◌, subst, arith}
use Rattle.plan_model.specs.Histories.{IsLegalHistory, places}
use Rattle.plan_model.specs.declared.events.Entry.{Entry}
use Rattle.terrain_model.specs.Terrain.{Terrain}
use Rattle.terrain_store.specs.Shapes.{Land}
use Rattle.swarm_passes.specs.Frames.{FrameView, AreFramesOf}

module _ (has land : Land) (size k levels : ℕ) (log : List Entry) (same : has ≡ land) (sizes : k ≡ size) (many : levels ≡ land.levels) where
  levels_of : has.levels ≡ levels
  levels_of = ap (λ (l : Land). l.levels) same ∙ sym many

  pub legal_for : IsLegalHistory size has.levels log → IsLegalHistory k levels log
  legal_for h = subst (λ (n : ℕ). IsLegalHistory n levels log) (sym sizes) (subst (λ (n : ℕ). IsLegalHistory size n log) levels_of h)

  pub frames_for : (frames : List FrameView) → AreFramesOf has.terrain size has.levels log frames → AreFramesOf land.terrain k levels log frames
  frames_for frames h =
      subst (λ (n : ℕ). AreFramesOf land.terrain n levels log frames) (sym sizes)
      (subst (λ (n : ℕ). AreFramesOf land.terrain size n log frames) levels_of
      (subst (λ (t : Terrain). AreFramesOf t size has.levels log frames) (ap (λ (l : Land). l.terrain) same) h))

-- a history is no longer than the places that it takes
pub short_for : (k levels : ℕ) (log : List Entry) → places k levels log ≤ 1048576 → length log ≤ 1048576
unfolding places
short_for k levels log few = omega (arith, few)
