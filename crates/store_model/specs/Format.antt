-- The header of a store, and how a block stands in it.
use Rattle.std.specs.Prelude.{◌≡◌, ◌⊎◌, ℕ, ◌+◌, ◌*◌, ◌^◌, ◌≤◌, ◌==◌, List, [], ◌∷◌, ◌++◌, length, if◌then◌else◌}
use Rattle.std.specs.Int.{w16, w32, to_be_bytes}
use Rattle.four_point.specs.Steps.{IsStep}

-- what the header of a store says; version 1 has the step 1
pub record Head : Type 0 where
  pub version : ℕ
  pub width : ℕ
  pub height : ℕ
  pub levels : ℕ
  pub step : ℕ

-- a version and a step that a store may have
abbrev pub IsVersion : ℕ → ℕ → Type 0
IsVersion version step = ((version ≡ 1) × (step ≡ 1)) ⊎ ((version ≡ 2) × IsStep step)

-- a header that a store may have: at least one sample and at most 2^26, and one to twelve levels
pub record IsSoundHead (head : Head) : Type 0 where
  pub some_columns : 1 ≤ head.width
  pub some_rows : 1 ≤ head.height
  pub few_samples : head.width * head.height ≤ 2 ^ 26
  pub some_levels : 1 ≤ head.levels
  pub few_levels : head.levels ≤ 12
  pub version : IsVersion head.version head.step

-- the first four bytes: GCT1 or GCT2
abbrev pub magic : ℕ → List ℕ
magic version = 71 ∷ 67 ∷ 84 ∷ (48 + version) ∷ []

-- the bytes of a header: 13 in version 1, and one more for the step in version 2
unfoldable pub head_bytes : Head → List ℕ
head_bytes head =
    magic head.version
    ++ to_be_bytes w32 head.width
    ++ to_be_bytes w32 head.height
    ++ head.levels ∷ (if head.version == 2 then head.step ∷ [] else [])

-- a block's bytes behind their number, which has 16 bits
unfoldable pub entry : List ℕ → List ℕ
entry content = to_be_bytes w16 (length content) ++ content
