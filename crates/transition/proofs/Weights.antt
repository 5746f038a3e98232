-- The weights of a blend are numbers from 0 to 32.
use Rattle.std.proofs.Common.{◌≡◌, ℕ, ◌-◌, ◌*◌, ◌/◌, ◌^◌, ◌≤◌, ℤ, pos, ◌-ℤ◌, ◌*ℤ◌, ◌≤ℤ◌, true, false, Bool, refl, ap, ◌∙◌, w16, w32, w64, arith}
use Rattle.std.specs.Int.{int_min, int_max}
use Rattle.std.proofs.lemmas.Int.{ints, clamps, to_z-of_z}
use mir.Val.{to_z, of_z, SFits}
use Rattle.clip_regions.specs.declared.region.Region.{Region}
use Rattle.clip_regions.specs.Regions.{contains}
use Rattle.plan_model.specs.Window.{blend_width}
use Rattle.mesh_model.specs.Height.{border_distance, blend_share, blended_height}
use Rattle.transition.specs.Weights.{own_weight, coarser_weight, mean_by}
use Rattle.mesh_model.proofs.Weights.{by_width, IsWeight, scaled_fits, IsShare, share_fits, own_few, coarser_few, inside_is}

pub own_fits : (k : ℕ) (share : ℤ) → 4 ≤ k → k ≤ 8 → pos 0 ≤ℤ share → share ≤ℤ pos (blend_width k) → IsWeight (own_weight k share)
unfolding own_weight
own_fits k share low high some within =
    scaled_fits (pos (blend_width k) -ℤ share) (blend_width k) (32 / blend_width k) (own_few k low high) (omega (arith, ints)) (omega (arith, ints))

pub coarser_fits : (k : ℕ) (share : ℤ) → 4 ≤ k → k ≤ 8 → pos 0 ≤ℤ share → share ≤ℤ pos (blend_width k) → IsWeight (coarser_weight k share)
unfolding coarser_weight
coarser_fits k share low high some within =
    scaled_fits share (blend_width k) (16 / blend_width k) (coarser_few k low high) some within

width_most : (k : ℕ) → 4 ≤ k → k ≤ 8 → blend_width k ≤ 16
unfolding blend_width
width_most k low high = by_width (λ n. 2 ^ (n - 4) ≤ 16) (omega arith) (omega arith) (omega arith) (omega arith) (omega arith) k low high

-- the definition's own weights
pub blend_is : (k : ℕ) (coarsest : Bool) (r : Region) (i j own a b : ℤ) → mean_by k (blend_share k coarsest r i j) own a b ≡ blended_height k coarsest r i j own a b
unfolding blended_height mean_by own_weight coarser_weight
blend_is k coarsest r i j own a b = refl

-- ---- the share of a cell
-- a difference of two numbers of 32 bits, taken with 64
pub difference_is : (a b x y : ℤ) → SFits w32 x → SFits w32 y → a ≡ to_z w32 (of_z w32 x) → b ≡ to_z w32 (of_z w32 y) → to_z w64 (of_z w64 (to_z w64 (of_z w64 a) -ℤ to_z w64 (of_z w64 b))) ≡ x -ℤ y
difference_is a b x y x_fits y_fits e f =
    let g : a ≡ x = e ∙ to_z-of_z w32 x x_fits in
    let h : b ≡ y = f ∙ to_z-of_z w32 y y_fits in
    omega (arith, ints, x_fits, y_fits)

pub distance_inside : (r : Region) (i j : ℤ) → contains r i j ≡ true → pos 0 ≤ℤ border_distance r i j
unfolding border_distance
distance_inside r i j inside =
    let within = inside_is r i j inside in
    omega (arith, ints, clamps, within)

-- a share read from 64 bits with 32
pub share_read : (k : ℕ) (r : Region) (i j s : ℤ) → 4 ≤ k → k ≤ 8 → contains r i j ≡ true → s ≡ blend_share k false r i j → SFits w32 s
share_read k r i j s low high inside e =
    let share : IsShare k (blend_share k false r i j) = share_fits k r i j inside in
    let most : blend_width k ≤ 16 = width_most k low high in
    omega (arith, ints, share.some, share.within, most)
