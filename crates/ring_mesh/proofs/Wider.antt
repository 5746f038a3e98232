-- A region that lies near the mosaic's corner lies less near.
use Rattle.std.proofs.Common.{◌^◌, arith}
use Rattle.std.proofs.lemmas.Int.{ints}
use Rattle.clip_regions.specs.declared.region.Region.{Region}
use Rattle.clip_regions.specs.Regions.{IsWithin}

pub within_more : (r : Region) → IsWithin (2 ^ 24) r → IsWithin (2 ^ 25) r
within_more r h =
    let a = h.x0_low in
    let b = h.x0_high in
    let c = h.y0_low in
    let d = h.y0_high in
    let e = h.x1_low in
    let f = h.x1_high in
    let g = h.y1_low in
    let i = h.y1_high in
    record {
      x0_low = omega (arith, ints, a);
      x0_high = omega (arith, ints, b);
      y0_low = omega (arith, ints, c);
      y0_high = omega (arith, ints, d);
      x1_low = omega (arith, ints, e);
      x1_high = omega (arith, ints, f);
      y1_low = omega (arith, ints, g);
      y1_high = omega (arith, ints, i);
    }
