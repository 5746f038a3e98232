-- The weights of the heights of a blend.
use Rattle.std.specs.Prelude.{ℕ, ◌/◌, ℤ, pos, ◌+ℤ◌, ◌-ℤ◌, ◌*ℤ◌}
use Rattle.plan_model.specs.Window.{blend_width}

-- the weight of a cell's own height, where the coarser heights have this share of the blend width
unfoldable pub own_weight : ℕ → ℤ → ℤ
own_weight k share = (pos (blend_width k) -ℤ share) *ℤ pos (32 / blend_width k)

-- the weight of each of the two coarser heights
unfoldable pub coarser_weight : ℕ → ℤ → ℤ
coarser_weight k share = share *ℤ pos (16 / blend_width k)

-- the mean weighted so, in thirty-seconds of a metre
unfoldable pub mean_by : ℕ → ℤ → ℤ → ℤ → ℤ → ℤ
mean_by k share own a b = own_weight k share *ℤ own +ℤ coarser_weight k share *ℤ (a +ℤ b)
