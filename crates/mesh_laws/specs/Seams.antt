-- What holds where levels meet, of the active regions of a frame.
use Rattle.std.specs.Prelude.{ℕ, List}
use Rattle.clip_regions.specs.declared.region.Region.{Region}
use Rattle.terrain_model.specs.Terrain.{Terrain}
use Rattle.plan_model.specs.Limits.{IsSize}
use Rattle.active_region.specs.Active.{AreDrawn}
use Rattle.mesh_model.specs.Watertight.{HeightsAgree, StitchesAreFlat, SquaresCover}

-- where a vertex of a level stands on the border of the finer active region, both levels give it one height
abbrev pub BordersAgree : Type 0
BordersAgree =
    (terrain : Terrain) (k : ℕ) (actives : List Region) → IsSize k → AreDrawn k actives → HeightsAgree terrain k actives

-- the middle vertex of each stitch stands in the middle between the two others
abbrev pub FlatStitches : Type 0
FlatStitches =
    (terrain : Terrain) (k : ℕ) (actives : List Region) → IsSize k → AreDrawn k actives
    → StitchesAreFlat terrain k actives

-- each unit square of the coarsest active region lies in one ring square of one level
abbrev pub CoveringSquares : Type 0
CoveringSquares = (k : ℕ) (actives : List Region) → AreDrawn k actives → SquaresCover actives
