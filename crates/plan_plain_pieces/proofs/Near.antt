-- Meets that stay near the mosaic's corner.
use Rattle.std.proofs.Common.{ℕ, ◌≤◌, arith}
use Rattle.std.proofs.lemmas.Int.{ints, clamps}
use Rattle.clip_regions.specs.declared.region.Region.{Region}
use Rattle.clip_regions.specs.Regions.{meet, IsWithin}
use Rattle.plan_sound.proofs.Parts.{IsOrdered, meet_by}
use Rattle.clip_regions.proofs.Cells.{empty_within, both}

both_within : (n : ℕ) (a b : Region) → IsWithin n a → IsOrdered (both a b) → IsWithin n (both a b)
unfolding both
both_within n a b w some =
    let across = some.x in
    let along = some.y in
    record {
      x0_low = omega (arith, ints, clamps);
      x0_high = omega (arith, ints, clamps);
      y0_low = omega (arith, ints, clamps);
      y0_high = omega (arith, ints, clamps);
      x1_low = omega (arith, ints, clamps);
      x1_high = omega (arith, ints, clamps);
      y1_low = omega (arith, ints, clamps);
      y1_high = omega (arith, ints, clamps);
    }

-- what a region that lies near the corner shares with any other does so too
pub meet_within : (n : ℕ) (a b : Region) → 1 ≤ n → IsWithin n a → IsWithin n (meet a b)
meet_within n a b h w =
    meet_by (IsWithin n) a b (empty_within n h) (both_within n a b w)
