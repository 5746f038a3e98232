-- The rectangle round two regions.
use Rattle.std.specs.Int.{int_min, int_max}
use Rattle.clip_regions.specs.declared.region.Region.{Region}

-- the region from the lesser to the greater corners of two regions
unfoldable pub span : Region → Region → Region
span a b = record { x0 = int_min a.x0 b.x0; y0 = int_min a.y0 b.y0; x1 = int_max a.x1 b.x1; y1 = int_max a.y1 b.y1 }
