-- Where active regions lie, as statements: each is the contract of a law of this crate.
use Rattle.std.specs.Prelude.{◌≡◌, ℕ, ◌<◌, List, length, slice_index_or}
use Rattle.clip_regions.specs.declared.region.Region.{Region}
use Rattle.clip_regions.specs.Regions.{empty_region}
use Rattle.plan_model.specs.Actives.{actives}
use Rattle.plan_model.specs.Sound.{IsShown}

-- there are as many active regions as filled ones
abbrev pub ActivesAreAsMany : Type 0
ActivesAreAsMany = (k finest : ℕ) (filled : List Region) → length (actives k finest filled) ≡ length filled

-- each region of a list, the finest first, is empty or lies with even corners in a window of its own level
abbrev pub AreShown : ℕ → List Region → Type 0
AreShown k regions =
    (level : ℕ) → level < length regions → IsShown k level (slice_index_or regions level empty_region)

-- where each filled region is so for some viewer within the limits, so is each active region
abbrev pub ActivesAreShown : Type 0
ActivesAreShown = (k finest : ℕ) (filled : List Region) → AreShown k filled → AreShown k (actives k finest filled)
