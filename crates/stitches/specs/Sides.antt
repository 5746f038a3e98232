-- The border of a ring's region, side by side.
use Rattle.std.specs.Prelude.{◌≡◌, ℕ, ◌+◌, ◌*◌, false, pos, ◌+ℤ◌, ◌-ℤ◌, List, [], ◌∷◌, reverse}
use Rattle.std.specs.Int.{int_gap}
use Rattle.clip_regions.specs.declared.region.Region.{Region}
use Rattle.clip_regions.specs.Regions.{is_empty, HasEvenCorners}
use Rattle.mesh_model.specs.declared.shapes.PartKind.{PartKind}
use Rattle.mesh_model.specs.declared.shapes.PartKind.TheVariants.{StitchNorth, StitchEast, StitchSouth, StitchWest}
use Rattle.mesh_model.specs.Parts.{PartTriangles, stitch_part}
use Rattle.mesh_laws.specs.declared.ring.Ring.{Ring}
use Rattle.mesh_laws.specs.Rings.{place_in}
use Rattle.mesh_laws.specs.Stitches.{row_places, column_places}
use Rattle.mesh_laws.specs.Conditions.{IsRing}
use Rattle.stitches.specs.declared.sides.Side.{Side}
use Rattle.stitches.specs.declared.sides.Side.TheVariants.{North, East, South, West}

-- the ring's region has cells and even corners
pub record IsBorder (ring : Ring) : Type 0 where
  pub own : IsRing ring
  pub some : is_empty ring.active ≡ false
  pub even : HasEvenCorners ring.active

-- the kind of the part of the stitches along a side
abbrev pub kind_of : Side → PartKind
kind_of North = StitchNorth
kind_of East = StitchEast
kind_of South = StitchSouth
kind_of West = StitchWest

-- how many steps the walk along a side has
abbrev pub steps_along : Region → Side → ℕ
steps_along r North = int_gap r.x0 r.x1
steps_along r East = int_gap r.y0 r.y1
steps_along r South = int_gap r.x0 r.x1
steps_along r West = int_gap r.y0 r.y1

-- the place of the vertex after u steps of the walk along a side
abbrev pub place_after : Ring → Side → ℕ → ℕ
place_after ring North u = place_in ring (ring.active.x0 +ℤ pos u) ring.active.y0
place_after ring East u = place_in ring ring.active.x1 (ring.active.y0 +ℤ pos u)
place_after ring South u = place_in ring (ring.active.x1 -ℤ pos u) ring.active.y1
place_after ring West u = place_in ring ring.active.x0 (ring.active.y1 -ℤ pos u)

-- the stitch of steps 2 · s and 2 · s + 1 of the walk along a side
unfoldable pub stitch_after : Ring → Side → ℕ → List ℕ
stitch_after ring side s =
    place_after ring side (2 * s) ∷ place_after ring side (2 * s + 1) ∷ place_after ring side (2 * s + 2) ∷ []

-- the places along a side, in the order of the walk
abbrev pub walk_along : Ring → Side → List ℕ
walk_along ring North = row_places ring ring.active.y0
walk_along ring East = column_places ring ring.active.x1
walk_along ring South = reverse (row_places ring ring.active.y1)
walk_along ring West = reverse (column_places ring ring.active.x0)

-- the part of the stitches along a side
abbrev pub side_part : ℕ → Ring → Side → PartTriangles
side_part level ring side = stitch_part level (kind_of side) (walk_along ring side)

-- the four sides in their order
abbrev pub sides : List Side
sides = North ∷ East ∷ South ∷ West ∷ []
