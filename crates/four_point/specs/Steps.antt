-- Codes and values by a step: a height within half a step of what its prediction and its code give.
use Rattle.std.specs.Prelude.{◌≡◌, ℕ, ◌-◌, ◌/◌, ◌%◌, ◌≤◌, ℤ, pos, neg_ℤ, ◌+ℤ◌, ◌-ℤ◌, ◌*ℤ◌, ◌≤ℤ◌}
use Rattle.std.specs.Int.{int_min, int_max}
use Rattle.clip_regions.specs.FloorDivision.{floor_div}
use Rattle.four_point.specs.Prediction.{prediction}

-- a step is an odd number from 1 to 255
pub record IsStep (step : ℕ) : Type 0 where
  pub odd : step % 2 ≡ 1
  pub high : step ≤ 255

-- the height's distance from its prediction in steps, to the nearest whole number of them
unfoldable pub code_of : (ℤ → ℤ → ℤ) → ℕ → ℤ → ℤ → ℤ → ℤ
code_of coarser step i j height =
    floor_div ((height -ℤ prediction coarser i j) +ℤ pos ((step - 1) / 2)) step

-- what a cell's prediction and so many steps give
unfoldable pub value_of : (ℤ → ℤ → ℤ) → ℕ → ℤ → ℤ → ℤ → ℤ
value_of coarser step i j code = prediction coarser i j +ℤ pos step *ℤ code

-- the nearest number of 16 bits
unfoldable pub brought : ℤ → ℤ
brought value = int_max (neg_ℤ (pos 32768)) (int_min (pos 32767) value)

-- the value is a height of 16 bits or at most half a step away from one
pub record IsNear (step : ℕ) (value : ℤ) : Type 0 where
  pub low : (neg_ℤ (pos 32768) -ℤ pos ((step - 1) / 2)) ≤ℤ value
  pub high : value ≤ℤ (pos 32767 +ℤ pos ((step - 1) / 2))
