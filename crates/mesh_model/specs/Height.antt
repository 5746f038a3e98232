-- The height of a vertex, in thirty-seconds of a metre: its level height, blended towards the next coarser level near
-- the border of its active region.
use Rattle.std.specs.Prelude.{ℕ, ◌+◌, ◌/◌, Bool, ◌==◌, ℤ, pos, ◌+ℤ◌, ◌-ℤ◌, ◌*ℤ◌, List, length, if◌then◌else◌, slice_index_or}
use Rattle.std.specs.Int.{int_min, int_max}
use Rattle.clip_regions.specs.declared.region.Region.{Region}
use Rattle.clip_regions.specs.Regions.{empty_region}
use Rattle.clip_regions.specs.FloorDivision.{floor_div}
use Rattle.plan_model.specs.Window.{blend_width}
use Rattle.terrain_model.specs.Terrain.{Terrain, level_height}

-- how far the cell in column i and row j lies inside the region's border
unfoldable pub border_distance : Region → ℤ → ℤ → ℤ
border_distance r i j = int_min (int_min (i -ℤ r.x0) (r.x1 -ℤ i)) (int_min (j -ℤ r.y0) (r.y1 -ℤ j))

-- how much of the blend width goes to the coarser level: all at the border, and nothing from the blend width on or at
-- the coarsest level
unfoldable pub blend_share : ℕ → Bool → Region → ℤ → ℤ → ℤ
blend_share k coarsest r i j =
    if coarsest then pos 0 else int_max (pos 0) (pos (blend_width k) -ℤ border_distance r i j)

-- the mean, weighted by those shares, of a cell's own height and of half the sum of two coarser heights; heights in
-- metres give thirty-seconds
unfoldable pub blended_height : ℕ → Bool → Region → ℤ → ℤ → ℤ → ℤ → ℤ → ℤ
blended_height k coarsest r i j own a b =
    let w = blend_width k in
    let t = blend_share k coarsest r i j in
    (pos w -ℤ t) *ℤ pos (32 / w) *ℤ own +ℤ t *ℤ pos (16 / w) *ℤ (a +ℤ b)

-- the coarser coordinates of the two ends between which a coordinate lies: both are its half where it is even
unfoldable pub lower_end : ℤ → ℤ
lower_end i = floor_div i 2

unfoldable pub upper_end : ℤ → ℤ
upper_end i = floor_div (i +ℤ pos 1) 2

-- the active region of a level, of a list that has the finest first
unfoldable pub active_at : List Region → ℕ → Region
active_at actives level = slice_index_or actives level empty_region

-- the height of vertex (i, j) of a level
unfoldable pub vertex_height : Terrain → ℕ → List Region → ℕ → ℤ → ℤ → ℤ
vertex_height terrain k actives level i j =
    let own = level_height terrain level i j in
    let a = level_height terrain (level + 1) (lower_end i) (lower_end j) in
    let b = level_height terrain (level + 1) (upper_end i) (upper_end j) in
    blended_height k (level + 1 == length actives) (active_at actives level) i j own a b
