-- Active regions and the cells of a level that lie outside a hole.
use Rattle.std.specs.Prelude.{◌≡◌, ◌^◌, false, not, Bool}
use Rattle.clip_regions.specs.declared.region.Region.{Region}
use Rattle.clip_regions.specs.Regions.{contains, is_empty, IsWithin, HasEvenCorners}
use Rattle.mesh_model.specs.Vertices.{LevelCell}
use Rattle.mesh_plain_heights.specs.declared.places.Cell.{Cell}

-- a region that can be active: near the mosaic's corner, and with even corners where it has a cell
pub record IsActive (r : Region) : Type 0 where
  pub within : IsWithin (2 ^ 24) r
  pub even : is_empty r ≡ false → HasEvenCorners r

-- the cell does not lie in the gap
unfoldable pub is_outside : Region → Cell → Bool
is_outside gap cell = not (contains gap cell.i cell.j)

-- a cell as one of the definitions
abbrev pub level_cell : Cell → LevelCell
level_cell cell = record { level = cell.level; i = cell.i; j = cell.j }
