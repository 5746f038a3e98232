-- What may come of a swarm, from what is known of its run.
use Rattle.std.proofs.Common.{◌≡◌, ℕ, ◌≤◌, Bool, true, false, if◌then◌else◌, List, [], ◌∷◌, length, map, inl, inr, refl, sym, ap, subst, ◌∙◌}
use Rattle.std.specs.List.Sorted.{IsPermutation}
use Rattle.std.proofs.lemmas.List.Sorted.{IsPermutation-map}
use Rattle.terrain_model.specs.Terrain.{Terrain}
use Rattle.plan_model.specs.Histories.{IsLegalHistory}
use Rattle.plan_model.specs.declared.events.Entry.{Entry}
use Rattle.swarm_laws.specs.Closings.{Closing, closings_in}
use Rattle.swarm_laws.specs.Runs.{Orders, IsSwarmRun, IsCutRun}
use Rattle.swarm_passes.specs.Frames.{FrameView, AreFramesOf, shown}
use Rattle.clip_script.specs.Ranges.{AreSizes}
use Rattle.clip_desk.specs.Plays.{play_actions}
use Rattle.run_actions.specs.Actions.{Action}
use Rattle.swarm_plays.specs.Journals.{steps_of}
use Rattle.swarm_plays.specs.Laws.{JournalsArePlayScripts, PlaysPutWhatHistoriesClose}
use Rattle.swarm_plays.specs.Puts.{closing_put, puts_in}
use Rattle.clip_swarm.specs.declared.running.SwarmRun.{SwarmRun}
use Rattle.swarm_runs.specs.Products.{IsRunWith, MayCome, frame_put, frame_puts}
use Rattle.swarm_runs.specs.Shown.{product_of}

run_with : (orders : Orders) (log : List Entry) (full : Bool) → (full ≡ false → IsSwarmRun orders log) → (full ≡ true → IsCutRun orders log) → (full ≡ true → 1048575 ≤ length log) →
    IsRunWith (if full then 6 else 0) orders log
run_with orders log false whole cut long = inl (refl, whole refl)
run_with orders log true whole cut long = inr (refl, (cut refl, long refl))

-- the files are those of the frames that the history closes
same_puts : (terrain : Terrain) (k : ℕ) (name : List ℕ) (all : List Closing) → map (closing_put terrain k name) all ≡ frame_puts name (map (shown terrain k) all)
same_puts terrain k name [] = refl
same_puts terrain k name (closing ∷ rest) = ap (λ (more : List Action). closing_put terrain k name closing ∷ more) (same_puts terrain k name rest)

played : PlaysPutWhatHistoriesClose → (terrain : Terrain) (k levels : ℕ) (name : List ℕ) (log : List Entry) (frames : List FrameView) → AreFramesOf terrain k levels log frames →
    IsPermutation (puts_in (play_actions terrain k levels (steps_of log) name)) (frame_puts name frames)
played plays terrain k levels name log frames closed =
    subst (λ (puts : List Action). IsPermutation puts (frame_puts name frames)) (sym (plays terrain k levels name log ∙ same_puts terrain k name (closings_in k levels log)))
    (IsPermutation-map (frame_put name) (map (shown terrain k) (closings_in k levels log)) frames closed.exact)

-- a run of a swarm makes what may come of it
pub may_come : JournalsArePlayScripts → PlaysPutWhatHistoriesClose → (orders : Orders) (terrain : Terrain) (k levels : ℕ) (name : List ℕ) (run : SwarmRun) → AreSizes k levels →
    IsLegalHistory k levels run.journal → length run.journal ≤ 1048576 → (run.full ≡ false → IsSwarmRun orders run.journal) → (run.full ≡ true → IsCutRun orders run.journal) →
    (run.full ≡ true → 1048575 ≤ length run.journal) → AreFramesOf terrain k levels run.journal run.frames.items → MayCome orders terrain k levels name (product_of k levels name run)
may_come journals plays orders terrain k levels name run sizes legal short whole cut long closed = record {
  log = run.journal;
  legal = legal;
  run = run_with orders run.journal run.full whole cut long;
  frames = run.frames.items;
  closed = closed;
  files = refl;
  text = refl;
  read = journals k levels run.journal sizes legal short;
  played = played plays terrain k levels name run.journal run.frames.items closed;
}
