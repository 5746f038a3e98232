-- What is filled of the levels, and what is true of the regions that are drawn of them, the finest level first.
use Rattle.std.specs.Prelude.{◌≡◌, ℕ, ◌-◌, ◌^◌, ◌<◌, true, ◌⊎◌, pos, ◌-ℤ◌, ◌≤ℤ◌, List, length, take, drop, replicate, All, slice_index_or, ◌++◌}
use Rattle.std.proofs.Common.{ap, sym, ◌∙◌, take-append-drop}
use Rattle.clip_regions.specs.declared.region.Region.{Region}
use Rattle.clip_regions.specs.Regions.{is_empty, empty_region, IsWithin}
use Rattle.plan_model.specs.Limits.{IsSize, IsLevelCount}
use Rattle.plan_model.specs.Window.{margin}
use Rattle.plan_model.specs.Laws.{AllEvenOrEmpty, AreNested}
use Rattle.plan_model.specs.Sound.{IsShown}
use Rattle.plan_laws.specs.Drawn.{AreShown}

-- each filled region is empty, or lies with even corners in a window of its own level for some viewer within the limits
abbrev pub AreFilled : ℕ → List Region → Type 0
AreFilled k filled =
    (level : ℕ) → level < length filled →
    (is_empty (slice_index_or filled level empty_region) ≡ true)
    ⊎ IsShown k level (slice_index_or filled level empty_region)

-- a filled region is empty or lies near the mosaic's corner
abbrev pub IsNearOrEmpty : Region → Type 0
IsNearOrEmpty r = (is_empty r ≡ true) ⊎ IsWithin (2 ^ 24) r

-- both sides of the region are 2 or more
pub record IsWide (r : Region) : Type 0 where
  pub across : pos 2 ≤ℤ (r.x1 -ℤ r.x0)
  pub along : pos 2 ≤ℤ (r.y1 -ℤ r.y0)

-- a region is empty or has such sides
abbrev pub IsWideOrEmpty : Region → Type 0
IsWideOrEmpty r = (r ≡ empty_region) ⊎ IsWide r

-- for K the regions are those of 1 to 12 levels: each is empty or lies with even corners in a window of its own level,
-- no corner of it is farther from zero than 2^24, its sides are 2 or more, and each finer one lies a margin inside the
-- next
pub record AreDrawn (k : ℕ) (regions : List Region) : Type 0 where
  pub many : IsLevelCount (length regions)
  pub shown : AreShown k regions
  pub even : AllEvenOrEmpty regions
  pub near : All (IsWithin (2 ^ 24)) regions
  pub wide : All IsWideOrEmpty regions
  pub nested : AreNested (margin k) regions

-- they are so for some K
pub record AreActive (regions : List Region) : Type 0 where
  pub k : ℕ
  pub size : IsSize k
  pub drawn : AreDrawn k regions

-- the first regions of twelve are active ones, and the others are unused
pub record IsTwelve (count : ℕ) (regions : List Region) : Type 0 where
  pub counted : length (take count regions) ≡ count
  pub unused : drop count regions ≡ replicate (12 - count) empty_region
  pub active : AreActive (take count regions)

-- so the first ones tell all twelve
pub restored : (count : ℕ) (regions : List Region) → IsTwelve count regions →
    take count regions ++ replicate (12 - length (take count regions)) empty_region ≡ regions
restored count regions h =
    ap (λ (n : ℕ). take count regions ++ replicate (12 - n) empty_region) h.counted
    ∙ ap (λ (others : List Region). take count regions ++ others) (sym h.unused)
    ∙ take-append-drop count regions
