-- The stitches of nested active regions, by places in closed form.
use Rattle.std.specs.Prelude.{ℕ, ◌+◌, ℤ, List, [], ◌∷◌, ◌++◌, map, reverse, if◌then◌else◌}
use Rattle.clip_regions.specs.declared.region.Region.{Region}
use Rattle.clip_regions.specs.Regions.{is_empty, columns, rows, numbers_from}
use Rattle.mesh_model.specs.declared.shapes.PartKind.TheVariants.{StitchNorth, StitchEast, StitchSouth, StitchWest}
use Rattle.mesh_model.specs.Parts.{PartTriangles, stitch_part}
use Rattle.mesh_laws.specs.declared.ring.Ring.{Ring}
use Rattle.mesh_laws.specs.Rings.{no_ring, next_ring, place_in}

-- the places of the vertices along row j of a ring's region, from the west, and along column i, from the north
unfoldable pub row_places : Ring → ℤ → List ℕ
row_places ring j = map (λ i. place_in ring i j) (numbers_from ring.active.x0 (columns ring.active))

unfoldable pub column_places : Ring → ℤ → List ℕ
column_places ring i = map (λ j. place_in ring i j) (numbers_from ring.active.y0 (rows ring.active))

-- the parts of the stitches along the border of a ring's region
unfoldable pub ring_stitches : ℕ → Ring → List PartTriangles
ring_stitches level ring =
    if is_empty ring.active then []
    else
    stitch_part level StitchNorth (row_places ring ring.active.y0)
    ∷ stitch_part level StitchEast (column_places ring ring.active.x1)
    ∷ stitch_part level StitchSouth (reverse (row_places ring ring.active.y1))
    ∷ stitch_part level StitchWest (reverse (column_places ring ring.active.x0))
    ∷ []

-- those of this ring and of the coarser ones, whose active regions follow: the coarsest has none
abbrev pub ring_stitches_from : ℕ → Ring → List Region → List PartTriangles
ring_stitches_from level ring [] = []
ring_stitches_from level ring (next ∷ coarser) =
    ring_stitches level ring ++ ring_stitches_from (level + 1) (next_ring ring next) coarser

abbrev pub all_ring_stitches : List Region → List PartTriangles
all_ring_stitches [] = []
all_ring_stitches (active ∷ coarser) = ring_stitches_from 0 (next_ring no_ring active) coarser
