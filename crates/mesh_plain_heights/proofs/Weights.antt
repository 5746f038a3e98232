-- The weights of a blend are numbers from 0 to 32.
use Rattle.std.proofs.Common.{◌≡◌, ℕ, ◌+◌, ◌-◌, ◌/◌, ◌^◌, ◌≤◌, ℤ, pos, ◌+ℤ◌, ◌-ℤ◌, ◌*ℤ◌, ◌≤ℤ◌, true, false, Bool, sym, refl, ap, List, length, ◌==◌, arith}
use Rattle.std.proofs.lemmas.Int.{ints}
use Rattle.clip_regions.specs.declared.region.Region.{Region}
use Rattle.plan_model.specs.Window.{blend_width}
use Rattle.terrain_model.specs.Terrain.{Terrain, level_height}
use Rattle.mesh_model.specs.Height.{blend_share, blended_height, active_at, lower_end, upper_end, vertex_height}
use Rattle.mesh_plain_heights.specs.Drawn.{own_weight, coarser_weight, blended_by}
use Rattle.mesh_model.proofs.Weights.{by_width, IsWeight, scaled_fits, own_few, coarser_few}

pub own_fits : (k : ℕ) (share : ℤ) → 4 ≤ k → k ≤ 8 → pos 0 ≤ℤ share → share ≤ℤ pos (blend_width k) → IsWeight (own_weight k share)
unfolding own_weight
own_fits k share low high some within =
    scaled_fits (pos (blend_width k) -ℤ share) (blend_width k) (32 / blend_width k) (own_few k low high) (omega (arith, ints)) (omega (arith, ints))

pub coarser_fits : (k : ℕ) (share : ℤ) → 4 ≤ k → k ≤ 8 → pos 0 ≤ℤ share → share ≤ℤ pos (blend_width k) → IsWeight (coarser_weight k share)
unfolding coarser_weight
coarser_fits k share low high some within =
    scaled_fits share (blend_width k) (16 / blend_width k) (coarser_few k low high) some within

none_times : (z : ℤ) → pos 0 *ℤ z ≡ pos 0
none_times z = omega (arith, ints)

none_added : (own a b : ℤ) → pos 32 *ℤ own +ℤ pos 0 *ℤ (a +ℤ b) ≡ pos 32 *ℤ own
none_added own a b = omega (arith, ints, none_times (a +ℤ b))

-- at the coarsest level nothing is blended
pub coarsest_is : (k : ℕ) (r : Region) (i j own a b : ℤ) → 4 ≤ k → k ≤ 8 → blended_height k true r i j own a b ≡ pos 32 *ℤ own
unfolding blended_height blend_share blend_width
coarsest_is k r i j own a b low high =
    by_width (λ n. (pos (2 ^ (n - 4)) -ℤ pos 0) *ℤ pos (32 / 2 ^ (n - 4)) *ℤ own +ℤ pos 0 *ℤ pos (16 / 2 ^ (n - 4)) *ℤ (a +ℤ b) ≡ pos 32 *ℤ own) (none_added own a b) (none_added own a b) (none_added own a b) (none_added own a b) (none_added own a b) k low high

-- the definition's own weights, for a cell that isn't of the coarsest level
pub blend_is : (k : ℕ) (r : Region) (i j own a b : ℤ) → blended_by k (blend_share k false r i j) own a b ≡ blended_height k false r i j own a b
unfolding blended_height blended_by own_weight coarser_weight
blend_is k r i j own a b = refl

pub vertex_is : (terrain : Terrain) (k : ℕ) (actives : List Region) (level : ℕ) (i j : ℤ) (coarsest : Bool) → (level + 1 == length actives) ≡ coarsest → blended_height k coarsest (active_at actives level) i j (level_height terrain level i j) (level_height terrain (level + 1) (lower_end i) (lower_end j)) (level_height terrain (level + 1) (upper_end i) (upper_end j)) ≡ vertex_height terrain k actives level i j
unfolding vertex_height
vertex_is terrain k actives level i j coarsest e =
    ap (λ (b : Bool). blended_height k b (active_at actives level) i j (level_height terrain level i j) (level_height terrain (level + 1) (lower_end i) (lower_end j)) (level_height terrain (level + 1) (upper_end i) (upper_end j))) (sym e)
