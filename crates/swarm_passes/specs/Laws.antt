-- What is true of the passes of a swarm, as a statement: it is the contract of a law of this crate.
use Rattle.std.specs.Prelude.{◌≡◌, ℕ, ◌+◌, ◌≤◌, Bool, true, false, List, length}
use Rattle.std.specs.List.Sorted.{IsPermutation, IsNonDecreasingBy}
use Rattle.plan_model.specs.Histories.{IsLegalHistory}
use Rattle.plan_model.specs.declared.events.Entry.{Entry}
use Rattle.clip_gate.specs.Passes.{ClipView, PassView, HasAllNumbers, IsSound}
use Rattle.swarm_laws.specs.Runs.{Orders, IsSwarmRun, IsCutRun}
use Rattle.swarm_passes.specs.Frames.{FrameView, AreFramesOf}
use Rattle.swarm_passes.specs.Playing.{GatheredBy}

-- a history is a whole run or a cut one, and these frames in rising order are those that it closes
pub record IsRunOf (orders : Orders) (shared : ClipView) (full : Bool) (frames : List FrameView) (log : List Entry)
    : Type 0 where
  pub legal : IsLegalHistory shared.size shared.land.levels log
  pub whole : full ≡ false → IsSwarmRun orders log
  pub cut : full ≡ true → IsCutRun orders log
  pub long : full ≡ true → 1048575 ≤ length log
  pub closed : (sorted : List FrameView) → IsNonDecreasingBy (λ frame. frame.number) sorted →
      IsPermutation frames sorted → AreFramesOf shared.land.terrain shared.size shared.land.levels log sorted

-- a pass that took all others over knows such a history, and has all numbers
abbrev pub GatheredPassesAreRuns : Type 0
GatheredPassesAreRuns =
    (orders : Orders) (shared : ClipView) (m : ℕ) (pass : PassView) (full : Bool) (frames : List FrameView) →
    m ≡ (1 + orders.workers) + orders.renderers → m ≤ 16 → IsSound pass →
    GatheredBy orders shared m m pass full frames →
    HasAllNumbers pass × IsRunOf orders shared full frames pass.history
