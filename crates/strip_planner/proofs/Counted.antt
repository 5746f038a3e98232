-- How many pieces a region has.
use Rattle.std.proofs.Common.{◌≡◌, ◌*◌, false}
use Rattle.clip_regions.specs.declared.region.Region.{Region}
use Rattle.clip_regions.specs.Regions.{is_empty}
use Rattle.plan_laws.specs.Pieces.{blocks_between, piece_count}

pub counted : (r : Region) → is_empty r ≡ false → piece_count r ≡ blocks_between r.x0 r.x1 * blocks_between r.y0 r.y1
unfolding piece_count
counted r e = rw e
