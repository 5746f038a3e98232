-- The limits of what a book is asked: the size of a torus, the number of levels, and where a viewer is.
use Rattle.std.specs.Prelude.{ℕ, ◌≤◌, ℤ, pos, neg_ℤ, ◌≤ℤ◌}

-- K is from 4 to 8
pub record IsSize (k : ℕ) : Type 0 where
  pub low : 4 ≤ k
  pub high : k ≤ 8

-- there are from 1 to 12 levels
pub record IsLevelCount (levels : ℕ) : Type 0 where
  pub low : 1 ≤ levels
  pub high : levels ≤ 12

-- a viewer's coordinate is within the limits
pub record IsViewed (v : ℤ) : Type 0 where
  pub low : neg_ℤ (pos 4194304) ≤ℤ v
  pub high : v ≤ℤ pos 4194304

-- a viewer at (x, y) and at altitude a is within the limits
pub record IsViewer (x y : ℤ) (a : ℕ) : Type 0 where
  pub column : IsViewed x
  pub row : IsViewed y
  pub altitude : a ≤ 1048576
