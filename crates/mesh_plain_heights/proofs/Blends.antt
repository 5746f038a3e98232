-- Heights: the terms of the code are those of the definitions.
use Rattle.std.proofs.Common.{◌≡◌, Bool, true, false, if◌then◌else◌, ℤ, pos, neg_ℤ, ◌-ℤ◌, ◌≤ℤ◌, ◌^◌, ap, ◌∙◌, w32, arith}
use Rattle.std.specs.Prelude.{int_lt}
use Rattle.std.specs.Int.{int_min}
use Rattle.std.proofs.lemmas.Int.{ints}
use mir.Val.{to_z, of_z}
use Rattle.clip_regions.specs.declared.region.Region.{Region}
use Rattle.clip_regions.specs.Regions.{IsWithin}
use Rattle.clip_regions.specs.FloorDivision.{floor_div}
use Rattle.mesh_model.specs.Height.{border_distance}

-- a difference of two near numbers fits
pub difference_is : (a b : ℤ) → neg_ℤ (pos (2 ^ 24)) ≤ℤ a → a ≤ℤ pos (2 ^ 24) → neg_ℤ (pos (2 ^ 24)) ≤ℤ b → b ≤ℤ pos (2 ^ 24) → to_z w32 (of_z w32 (to_z w32 (of_z w32 a) -ℤ to_z w32 (of_z w32 b))) ≡ a -ℤ b
difference_is a b a_low a_high b_low b_high = omega (arith, ints)

pub half_is : {a r : ℤ} → r ≡ floor_div a 2 → (x : ℤ) → a ≡ x → r ≡ floor_div x 2
half_is e x same = e ∙ ap (λ (z : ℤ). floor_div z 2) same

chosen : (P : ℤ → Type 0) (t : Bool) (a b : ℤ) → P a → P b → P (if t then b else a)
chosen P true a b left right = right
chosen P false a b left right = left

-- what holds of both numbers holds of the lesser
least_keeps : (P : ℤ → Type 0) (a b : ℤ) → P a → P b → P (int_min a b)
least_keeps P a b left right = chosen P (int_lt b a) a b left right

pub distance_low : (r : Region) (i j : ℤ) → IsWithin (2 ^ 24) r → neg_ℤ (pos (2 ^ 24)) ≤ℤ i → i ≤ℤ pos (2 ^ 24) → neg_ℤ (pos (2 ^ 24)) ≤ℤ j → j ≤ℤ pos (2 ^ 24) → neg_ℤ (pos (2 ^ 25)) ≤ℤ border_distance r i j
unfolding border_distance
distance_low r i j near west east north south =
    let a : neg_ℤ (pos (2 ^ 25)) ≤ℤ (i -ℤ r.x0) = omega (arith, ints, near.x0_low, near.x0_high) in
    let b : neg_ℤ (pos (2 ^ 25)) ≤ℤ (r.x1 -ℤ i) = omega (arith, ints, near.x1_low, near.x1_high) in
    let d : neg_ℤ (pos (2 ^ 25)) ≤ℤ (j -ℤ r.y0) = omega (arith, ints, near.y0_low, near.y0_high) in
    let e : neg_ℤ (pos (2 ^ 25)) ≤ℤ (r.y1 -ℤ j) = omega (arith, ints, near.y1_low, near.y1_high) in
    let P = λ (z : ℤ). neg_ℤ (pos (2 ^ 25)) ≤ℤ z in
    least_keeps P (int_min (i -ℤ r.x0) (r.x1 -ℤ i)) (int_min (j -ℤ r.y0) (r.y1 -ℤ j)) (least_keeps P (i -ℤ r.x0) (r.x1 -ℤ i) a b) (least_keeps P (j -ℤ r.y0) (r.y1 -ℤ j) d e)

pub distance_high : (r : Region) (i j : ℤ) → IsWithin (2 ^ 24) r → neg_ℤ (pos (2 ^ 24)) ≤ℤ i → i ≤ℤ pos (2 ^ 24) → neg_ℤ (pos (2 ^ 24)) ≤ℤ j → j ≤ℤ pos (2 ^ 24) → border_distance r i j ≤ℤ pos (2 ^ 25)
unfolding border_distance
distance_high r i j near west east north south =
    let a : (i -ℤ r.x0) ≤ℤ pos (2 ^ 25) = omega (arith, ints, near.x0_low, near.x0_high) in
    let b : (r.x1 -ℤ i) ≤ℤ pos (2 ^ 25) = omega (arith, ints, near.x1_low, near.x1_high) in
    let d : (j -ℤ r.y0) ≤ℤ pos (2 ^ 25) = omega (arith, ints, near.y0_low, near.y0_high) in
    let e : (r.y1 -ℤ j) ≤ℤ pos (2 ^ 25) = omega (arith, ints, near.y1_low, near.y1_high) in
    let P = λ (z : ℤ). z ≤ℤ pos (2 ^ 25) in
    least_keeps P (int_min (i -ℤ r.x0) (r.x1 -ℤ i)) (int_min (j -ℤ r.y0) (r.y1 -ℤ j)) (least_keeps P (i -ℤ r.x0) (r.x1 -ℤ i) a b) (least_keeps P (j -ℤ r.y0) (r.y1 -ℤ j) d e)
