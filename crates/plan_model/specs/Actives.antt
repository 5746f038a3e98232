-- The active regions: what is drawn of each level. Each finer one lies inside the coarser one, a margin away from its
-- border.
use Rattle.std.specs.Prelude.{ℕ, zero, suc, ◌||◌, pos, ◌-ℤ◌, int_lt, List, [], ◌∷◌, if◌then◌else◌}
use Rattle.clip_regions.specs.declared.region.Region.{Region}
use Rattle.clip_regions.specs.Regions.{empty_region, meet, erode, double}
use Rattle.plan_model.specs.Window.{margin}

-- the region where both sides are 2 or more, else the empty one
unfoldable pub drawable : Region → Region
drawable r =
    if int_lt (r.x1 -ℤ r.x0) (pos 2) || int_lt (r.y1 -ℤ r.y0) (pos 2) then empty_region else r

-- the cells of a finer level that lie in the coarser active region, a margin of coarser cells inside it
unfoldable pub inner : ℕ → Region → Region
inner e coarser = double (erode coarser (pos e))

-- the active region of a level, of its filled region and the active regions of the coarser levels
abbrev pub active_of : ℕ → Region → List Region → Region
active_of e filled [] = drawable filled
active_of e filled (coarser ∷ rest) = drawable (meet filled (inner e coarser))

-- the active regions of a list of filled regions, the finest first, for a margin
abbrev pub actives_by : ℕ → List Region → List Region
actives_by e [] = []
actives_by e (filled ∷ coarser) =
    let rest = actives_by e coarser in
    active_of e filled rest ∷ rest

-- the filled regions, the finest first, with the empty one in place of each below the finest level in use
abbrev pub filled_from : ℕ → List Region → List Region
filled_from finest [] = []
filled_from zero (filled ∷ coarser) = filled ∷ coarser
filled_from (suc finest) (filled ∷ coarser) = empty_region ∷ filled_from finest coarser

-- the active regions of a list of filled regions, the finest first: a level below the finest in use shows nothing
unfoldable pub actives : ℕ → ℕ → List Region → List Region
actives k finest filled = actives_by (margin k) (filled_from finest filled)
