-- What lasts over some events of a run.
use Rattle.std.specs.Prelude.{◌≡◌, ℕ, ◌+◌, ◌≤◌, length}
use Rattle.plan_model.specs.Histories.{Run}
use Rattle.plan_plain.specs.SoundRuns.{IsSoundRun}

-- a run that comes of another by at most so many events: it is sound, and K and the number of levels are as before
pub record IsAfter (count : ℕ) (before after : Run) : Type 0 where
  pub sound : IsSoundRun after
  pub few : length after.history ≤ length before.history + count
  pub k : after.state.k ≡ before.state.k
  pub levels : length after.state.levels ≡ length before.state.levels
