-- Half of a placed region with even corners is placed at the next coarser level.
use Rattle.std.proofs.Common.{◌≡◌, ℕ, ◌+◌, ◌*◌, ◌/◌, ◌^◌, Bool, true, false, ℤ, pos, negsuc, neg_ℤ, ◌*ℤ◌, ◌≤ℤ◌, refl, ap, sym, subst, ◌∙◌, add-one, arith}
use Rattle.std.proofs.Math.Nat.{pow-suc}
use Rattle.std.proofs.Math.IntN.{pos-*ℤ-pos, negsuc-*ℤ-pos}
use Rattle.std.proofs.lemmas.Bool.{true≢false}
use Rattle.std.proofs.lemmas.Int.{ints}
use Rattle.clip_regions.specs.declared.region.Region.{Region}
use Rattle.clip_regions.specs.FloorDivision.{floor_div, floor_rem}
use Rattle.clip_regions.specs.Regions.{is_empty, empty_region, spelled, halve, IsWithin}
use Rattle.mesh_model.specs.Vertices.{hole}
use Rattle.mesh_plain.specs.Blocks.{HasPlacedCorners}
use Rattle.mesh_plain.specs.Frames.{IsDrawn}
use Rattle.mesh_plain_heights.specs.Placed.{IsPlacedAt}
use Rattle.mesh_plain.specs.Rings.{IsActive}

-- twice the spacing
doubled : (level : ℕ) → 2 ^ (level + 1) ≡ 2 ^ level * 2
doubled level = rw add-one (pow-suc 2 level)

same_product : (n q s t : ℕ) → n ≡ q * 2 → t ≡ s * 2 → q * t ≡ n * s
same_product n q s t e f =
    let scaled : n * s ≡ q * 2 * s = ap (λ (m : ℕ). m * s) e in
    let wide : q * t ≡ q * (s * 2) = ap (λ (m : ℕ). q * m) f in
    omega (arith, scaled, wide)

same_position : (x : ℤ) (level : ℕ) → floor_rem x 2 ≡ 0 → floor_div x 2 *ℤ pos (2 ^ (level + 1)) ≡ x *ℤ pos (2 ^ level)
unfolding floor_div floor_rem
same_position (pos n) level even =
    let twice : n ≡ n / 2 * 2 = omega (arith, even) in
    pos-*ℤ-pos (n / 2) (2 ^ (level + 1)) ∙ ap pos (same_product n (n / 2) (2 ^ level) (2 ^ (level + 1)) twice (doubled level)) ∙ sym (pos-*ℤ-pos n (2 ^ level))
same_position (negsuc n) level even =
    let twice : n + 1 ≡ (n / 2 + 1) * 2 = omega (arith, even) in
    let same : (n / 2 + 1) * 2 ^ (level + 1) ≡ (n + 1) * 2 ^ level = same_product (n + 1) (n / 2 + 1) (2 ^ level) (2 ^ (level + 1)) twice (doubled level) in
    omega (arith, ints, same, negsuc-*ℤ-pos (n / 2) (2 ^ (level + 1)), negsuc-*ℤ-pos n (2 ^ level))

half_low : (x : ℤ) → neg_ℤ (pos (2 ^ 24)) ≤ℤ x → neg_ℤ (pos (2 ^ 24)) ≤ℤ floor_div x 2
unfolding floor_div
half_low (pos n) h = omega (arith, ints)
half_low (negsuc n) h = omega (arith, ints)

half_high : (x : ℤ) → x ≤ℤ pos (2 ^ 24) → floor_div x 2 ≤ℤ pos (2 ^ 24)
unfolding floor_div
half_high (pos n) h = omega (arith, ints)
half_high (negsuc n) h = omega (arith, ints)

half_placed : (level : ℕ) (x : ℤ) → floor_rem x 2 ≡ 0 → IsPlacedAt level x → IsPlacedAt (level + 1) (floor_div x 2)
half_placed level x even placed = record {
  low = subst (λ (z : ℤ). neg_ℤ (pos (2 ^ 24)) ≤ℤ z) (sym (same_position x level even)) placed.low;
  high = subst (λ (z : ℤ). z ≤ℤ pos (2 ^ 24)) (sym (same_position x level even)) placed.high;
  small_low = half_low x placed.small_low;
  small_high = half_high x placed.small_high;
}

abbrev halved : Region → Region
halved r = record { x0 = floor_div r.x0 2; y0 = floor_div r.y0 2; x1 = floor_div r.x1 2; y1 = floor_div r.y1 2 }

no_hole : (r : Region) → is_empty r ≡ true → hole r ≡ empty_region
unfolding hole
no_hole r e = rw e refl

hole_vanishes : (r : Region) → is_empty r ≡ false → is_empty (halved r) ≡ true → hole r ≡ empty_region
unfolding hole halve spelled
hole_vanishes r e f = rw (e, f) refl

hole_is_half : (r : Region) → is_empty r ≡ false → is_empty (halved r) ≡ false → hole r ≡ halved r
unfolding hole halve spelled
hole_is_half r e f = rw (e, f) refl

none_in_empty : is_empty empty_region ≡ true
unfolding is_empty
none_in_empty = refl

next_by : (level : ℕ) (r : Region) (b c : Bool) → is_empty r ≡ b → is_empty (halved r) ≡ c → IsDrawn level r → is_empty (hole r) ≡ false → HasPlacedCorners (level + 1) (hole r)
next_by level r true c e f drawn some = absurd (true≢false (sym none_in_empty ∙ sym (ap is_empty (no_hole r e)) ∙ some))
next_by level r false true e f drawn some = absurd (true≢false (sym none_in_empty ∙ sym (ap is_empty (hole_vanishes r e f)) ∙ some))
next_by level r false false e f drawn some =
    let even = drawn.active.even e in
    subst (HasPlacedCorners (level + 1)) (sym (hole_is_half r e f))
    (record {
      west = half_placed level r.x0 even.x0 drawn.west;
      north = half_placed level r.y0 even.y0 drawn.north;
      east = half_placed level r.x1 even.x1 drawn.east;
      south = half_placed level r.y1 even.y1 drawn.south;
    })

-- where the next coarser level has a hole, its corners are placed there
pub gap_placed : (level : ℕ) (r : Region) → IsDrawn level r → is_empty (hole r) ≡ false → HasPlacedCorners (level + 1) (hole r)
gap_placed level r drawn some = next_by level r (is_empty r) (is_empty (halved r)) refl refl drawn some

-- before the first level there is no hole
pub no_gap : is_empty (hole empty_region) ≡ false → HasPlacedCorners 0 (hole empty_region)
no_gap some = absurd (true≢false (sym none_in_empty ∙ sym (ap is_empty (no_hole empty_region none_in_empty)) ∙ some))

pub drawn_corners : (level : ℕ) (r : Region) → IsDrawn level r → HasPlacedCorners level r
drawn_corners level r drawn = record { west = drawn.west; north = drawn.north; east = drawn.east; south = drawn.south }

empty_within : IsWithin (2 ^ 24) empty_region
empty_within = record {
  x0_low = omega (arith, ints);
  x0_high = omega (arith, ints);
  y0_low = omega (arith, ints);
  y0_high = omega (arith, ints);
  x1_low = omega (arith, ints);
  x1_high = omega (arith, ints);
  y1_low = omega (arith, ints);
  y1_high = omega (arith, ints);
}

pub empty_active : IsActive empty_region
empty_active = record { within = empty_within; even = λ some. absurd (true≢false (sym none_in_empty ∙ some)) }
