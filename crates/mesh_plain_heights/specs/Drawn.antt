-- The cells whose heights are asked for, and the blend of their heights.
use Rattle.std.specs.Prelude.{◌≡◌, ℕ, ◌/◌, ◌^◌, ◌<◌, true, ℤ, pos, ◌+ℤ◌, ◌-ℤ◌, ◌*ℤ◌, List, length}
use Rattle.clip_regions.specs.declared.region.Region.{Region}
use Rattle.clip_regions.specs.Regions.{contains, IsWithin}
use Rattle.plan_model.specs.Window.{blend_width}
use Rattle.mesh_model.specs.Height.{active_at}
use Rattle.mesh_plain_heights.specs.declared.places.Cell.{Cell}
use Rattle.mesh_plain_heights.specs.Placed.{IsPlacedAt}

-- a cell of the active region of its level, near the mosaic's corner
pub record IsDrawnCell (actives : List Region) (cell : Cell) : Type 0 where
  pub listed : cell.level < length actives
  pub near : IsWithin (2 ^ 24) (active_at actives cell.level)
  pub inside : contains (active_at actives cell.level) cell.i cell.j ≡ true
  pub column : IsPlacedAt cell.level cell.i
  pub row : IsPlacedAt cell.level cell.j

-- the weight of a cell's own height in its blended one, where the coarser heights have this share
unfoldable pub own_weight : ℕ → ℤ → ℤ
own_weight k share = (pos (blend_width k) -ℤ share) *ℤ pos (32 / blend_width k)

-- the weight of each of the two coarser heights
unfoldable pub coarser_weight : ℕ → ℤ → ℤ
coarser_weight k share = share *ℤ pos (16 / blend_width k)

-- the mean weighted so, in thirty-seconds of a metre
unfoldable pub blended_by : ℕ → ℤ → ℤ → ℤ → ℤ → ℤ
blended_by k share own a b = own_weight k share *ℤ own +ℤ coarser_weight k share *ℤ (a +ℤ b)
