-- What holds of residuals over any table of coarser heights.
use Rattle.std.specs.Prelude.{◌≡◌, ℕ, ◌^◌, ◌<◌, ◌-◌, ◌/◌, ℤ, pos, ◌+ℤ◌, ◌-ℤ◌, ◌*ℤ◌, ◌≤ℤ◌, unsigned_abs, FitsSigned}
use Rattle.std.specs.Int.{w16}
use Rattle.four_point.specs.Prediction.{prediction}
use Rattle.four_point.specs.Patches.{IsOfBlock}
use Rattle.four_point.specs.Steps.{IsStep, IsNear, code_of, value_of, brought}

-- between heights of 16 bits a residual is below 2^17 in size
abbrev pub ResidualSize : Type 0
ResidualSize =
    (coarser : ℤ → ℤ → ℤ) (i j height : ℤ) → ((a b : ℤ) → FitsSigned w16 (coarser a b)) → FitsSigned w16 height
    → unsigned_abs (height -ℤ prediction coarser i j) < 2 ^ 17

-- where a coarser level takes the samples at even places, their residuals are 0
abbrev pub EvenResidual : Type 0
EvenResidual =
    (finer coarser : ℤ → ℤ → ℤ) → ((a b : ℤ) → coarser a b ≡ finer (pos 2 *ℤ a) (pos 2 *ℤ b))
    → (a b : ℤ) → finer (pos 2 *ℤ a) (pos 2 *ℤ b) -ℤ prediction coarser (pos 2 *ℤ a) (pos 2 *ℤ b) ≡ pos 0

-- a cell with both coordinates even is predicted as the coarser height
abbrev pub EvenPrediction : Type 0
EvenPrediction = (coarser : ℤ → ℤ → ℤ) (a b : ℤ) → prediction coarser (pos 2 *ℤ a) (pos 2 *ℤ b) ≡ coarser a b

-- the predictions of a block's cells depend on the heights of its patch alone
abbrev pub PredictionFromPatch : Type 0
PredictionFromPatch =
    (coarser other : ℤ → ℤ → ℤ) (i0 j0 i j : ℤ)
    → ((a b : ℤ) → i0 ≤ℤ a → a ≤ℤ (i0 +ℤ pos 6) → j0 ≤ℤ b → b ≤ℤ (j0 +ℤ pos 6) → coarser a b ≡ other a b)
    → IsOfBlock i0 i → IsOfBlock j0 j → prediction coarser i j ≡ prediction other i j

-- the value of a height's code lies within half a step of the height
pub record IsWithinHalf (step : ℕ) (height value : ℤ) : Type 0 where
  pub low : (height -ℤ pos ((step - 1) / 2)) ≤ℤ value
  pub high : value ≤ℤ (height +ℤ pos ((step - 1) / 2))

abbrev pub ValueWithinHalf : Type 0
ValueWithinHalf =
    (coarser : ℤ → ℤ → ℤ) (step : ℕ) (i j height : ℤ) → IsStep step
    → IsWithinHalf step height (value_of coarser step i j (code_of coarser step i j height))

-- so it is near a height of 16 bits, where that one is such
abbrev pub WithinHalfIsNear : Type 0
WithinHalfIsNear =
    (step : ℕ) (height value : ℤ) → FitsSigned w16 height → IsWithinHalf step height value → IsNear step value

-- and the nearest height of 16 bits lies within half a step too
abbrev pub BroughtWithinHalf : Type 0
BroughtWithinHalf =
    (step : ℕ) (height value : ℤ) → FitsSigned w16 height → IsWithinHalf step height value
    → IsWithinHalf step height (brought value)

-- the nearest height of 16 bits is one, and is the number itself where that is one
abbrev pub BroughtFits : Type 0
BroughtFits = (value : ℤ) → FitsSigned w16 (brought value)

abbrev pub BroughtSame : Type 0
BroughtSame = (value : ℤ) → FitsSigned w16 value → brought value ≡ value

-- by the step 1 the code is the residual
abbrev pub CodeByOne : Type 0
CodeByOne = (coarser : ℤ → ℤ → ℤ) (i j height : ℤ) → code_of coarser 1 i j height ≡ height -ℤ prediction coarser i j

-- the code of a height of 16 bits is below 2^17 in size
abbrev pub CodeSize : Type 0
CodeSize =
    (coarser : ℤ → ℤ → ℤ) (step : ℕ) (i j height : ℤ) → ((a b : ℤ) → FitsSigned w16 (coarser a b))
    → FitsSigned w16 height → IsStep step → unsigned_abs (code_of coarser step i j height) < 2 ^ 17
