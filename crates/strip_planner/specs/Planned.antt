-- The regions that are cut into pieces: those that a window can hold.
use Rattle.std.specs.Prelude.{◌≡◌, ℕ, ◌^◌, false, IsTrue, ℤ, pos, ◌-ℤ◌, ◌≤ℤ◌}
use Rattle.clip_regions.specs.declared.region.Region.{Region}
use Rattle.clip_regions.specs.Regions.{is_empty, holds, IsWithin}
use Rattle.plan_model.specs.Limits.{IsSize, IsViewed}
use Rattle.plan_model.specs.Window.{window}

-- a region is empty, or it has at most 255 columns and rows and lies near the mosaic's corner
pub record IsPlanned (r : Region) : Type 0 where
  pub near : is_empty r ≡ false → IsWithin (2 ^ 24) r
  pub columns : is_empty r ≡ false → (r.x1 -ℤ r.x0) ≤ℤ pos 254
  pub rows : is_empty r ≡ false → (r.y1 -ℤ r.y0) ≤ℤ pos 254

-- each region in a window of a viewer within the limits is so
abbrev pub RegionsInWindowsArePlanned : Type 0
RegionsInWindowsArePlanned =
    (k level : ℕ) (x y : ℤ) (r : Region) → IsSize k → IsViewed x → IsViewed y → IsTrue (holds (window k level x y) r) →
    IsPlanned r
