-- The cells of a level that can be asked for.
use Rattle.std.specs.Prelude.{ℕ, ◌^◌, ℤ, pos, neg_ℤ, ◌*ℤ◌, ◌≤ℤ◌}

-- the sample of this column or row of a level lies between -2^30 and 2^30
pub record IsInReach (level : ℕ) (cell : ℤ) : Type 0 where
  pub low : neg_ℤ (pos (2 ^ 30)) ≤ℤ (cell *ℤ pos (2 ^ level))
  pub high : (cell *ℤ pos (2 ^ level)) ≤ℤ pos (2 ^ 30)
