-- Which tiles of a torus an axis of blocks meets, going round.
use Rattle.std.specs.Prelude.{ℕ, ◌+◌, ◌-◌, ◌<◌, Bool, ◌==◌, nat_le, ℤ, if◌then◌else◌}
use Rattle.std.specs.List.{list_any}
use Rattle.clip_regions.specs.FloorDivision.{floor_rem}
use Rattle.clip_regions.specs.Regions.{numbers_from}

-- one of n blocks of an axis, from the first on, has the place t among so many tiles
unfoldable pub has_place : ℕ → ℤ → ℕ → ℕ → Bool
has_place side first n t = list_any (λ b. floor_rem b side == t) (numbers_from first n)

-- how far place t lies after another, going round
unfoldable pub ahead : ℕ → ℕ → ℕ → ℕ
ahead side from t = if nat_le from t then t - from else (t + side) - from

-- the tile is one of the torus
pub record IsTile (side tx ty : ℕ) : Type 0 where
  pub column : tx < side
  pub row : ty < side
