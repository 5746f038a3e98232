-- Regions that share no place in the torus.
use Rattle.std.specs.Prelude.{◌≡◌, ℕ, ℤ, IsTrue}
use Rattle.clip_regions.specs.declared.region.Region.{Region}
use Rattle.clip_regions.specs.Regions.{contains}
use Rattle.plan_model.specs.Blocks.{wrapped_place}

-- the cell in column i and row j lies in the region
abbrev pub HasCell : Region → ℤ → ℤ → Type 0
HasCell r i j = IsTrue (contains r i j)

-- no cell of a has the wrapped place of a cell of b
abbrev pub AreApart : ℕ → Region → Region → Type 0
AreApart k a b =
    (i j i' j' : ℤ) → HasCell a i j → HasCell b i' j' → wrapped_place k i j ≡ wrapped_place k i' j' → ⊥
