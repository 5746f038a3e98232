-- Weights and shares of a blend: how large they are, and what their terms in code stand for.
use Rattle.std.proofs.Common.{◌≡◌, ℕ, zero, suc, ◌-◌, ◌*◌, ◌/◌, ◌^◌, ◌≤◌, ℤ, pos, negsuc, neg_ℤ, ◌+ℤ◌, ◌-ℤ◌, ◌*ℤ◌, ◌≤ℤ◌, true, false, Bool, ap, ◌∙◌, w16, w32, arith}
use Rattle.std.specs.Int.{int_min, int_max}
use Rattle.std.proofs.Math.Nat.{mul-le-mul_right}
use Rattle.std.proofs.lemmas.Int.{ints, clamps, to_z-of_z}
use mir.Val.{to_z, of_z, SFits}
use Rattle.clip_regions.specs.declared.region.Region.{Region}
use Rattle.clip_regions.specs.Regions.{contains}
use Rattle.plan_model.specs.Window.{blend_width}
use Rattle.mesh_model.specs.Height.{border_distance, blend_share}

pub by_width : (P : ℕ → Type 0) → P 4 → P 5 → P 6 → P 7 → P 8 → (k : ℕ) → 4 ≤ k → k ≤ 8 → P k
by_width P a b c d e zero low high = absurd (omega arith)
by_width P a b c d e (suc zero) low high = absurd (omega arith)
by_width P a b c d e (suc (suc zero)) low high = absurd (omega arith)
by_width P a b c d e (suc (suc (suc zero))) low high = absurd (omega arith)
by_width P a b c d e (suc (suc (suc (suc zero)))) low high = a
by_width P a b c d e (suc (suc (suc (suc (suc zero))))) low high = b
by_width P a b c d e (suc (suc (suc (suc (suc (suc zero)))))) low high = c
by_width P a b c d e (suc (suc (suc (suc (suc (suc (suc zero))))))) low high = d
by_width P a b c d e (suc (suc (suc (suc (suc (suc (suc (suc zero)))))))) low high = e
by_width P a b c d e (suc (suc (suc (suc (suc (suc (suc (suc (suc n))))))))) low high = absurd (omega arith)

pub own_scale_is : (k n p : ℕ) → k ≡ n → p ≡ 32 / 2 ^ (n - 4) → pos p ≡ pos (32 / blend_width k)
unfolding blend_width
own_scale_is k n p e same = rw e (ap pos same)

pub coarser_scale_is : (k n p : ℕ) → k ≡ n → p ≡ 16 / 2 ^ (n - 4) → pos p ≡ pos (16 / blend_width k)
unfolding blend_width
coarser_scale_is k n p e same = rw e (ap pos same)

-- at least 0 and at most 32
pub record IsWeight (z : ℤ) : Type 0 where
  pub positive : pos 0 ≤ℤ z
  pub few : z ≤ℤ pos 32

pub scaled_fits : (t : ℤ) (w p : ℕ) → w * p ≤ 32 → pos 0 ≤ℤ t → t ≤ℤ pos w → IsWeight (t *ℤ pos p)
scaled_fits (pos t) w p few some within =
    let below : t ≤ w = omega (arith, ints) in
    record { positive = omega (arith, ints); few = omega (arith, ints, few, mul-le-mul_right p below) }
scaled_fits (negsuc t) w p few some within = absurd (omega (arith, ints))

pub own_few : (k : ℕ) → 4 ≤ k → k ≤ 8 → blend_width k * (32 / blend_width k) ≤ 32
unfolding blend_width
own_few k low high = by_width (λ n. 2 ^ (n - 4) * (32 / 2 ^ (n - 4)) ≤ 32) (omega arith) (omega arith) (omega arith) (omega arith) (omega arith) k low high

pub coarser_few : (k : ℕ) → 4 ≤ k → k ≤ 8 → blend_width k * (16 / blend_width k) ≤ 32
unfolding blend_width
coarser_few k low high = by_width (λ n. 2 ^ (n - 4) * (16 / 2 ^ (n - 4)) ≤ 32) (omega arith) (omega arith) (omega arith) (omega arith) (omega arith) k low high

-- the share of a cell that lies in the region
pub record IsShare (k : ℕ) (share : ℤ) : Type 0 where
  pub some : pos 0 ≤ℤ share
  pub within : share ≤ℤ pos (blend_width k)

pub inside_is : (r : Region) (i j : ℤ) → contains r i j ≡ true → (r.x0 ≤ℤ i) × (i ≤ℤ r.x1) × (r.y0 ≤ℤ j) × (j ≤ℤ r.y1)
unfolding contains
inside_is r i j inside = (grind (arith, ints), grind (arith, ints), grind (arith, ints), grind (arith, ints))

pub share_fits : (k : ℕ) (r : Region) (i j : ℤ) → contains r i j ≡ true → IsShare k (blend_share k false r i j)
unfolding blend_share border_distance
share_fits k r i j inside =
    let within = inside_is r i j inside in
    record { some = omega (arith, ints, clamps); within = omega (arith, ints, clamps, within) }

pub weight_sfits : (z : ℤ) → IsWeight z → SFits w32 z
weight_sfits z h = omega (arith, ints)

pub product_is : (x y a b : ℤ) → x ≡ a → y ≡ b → SFits w32 (a *ℤ b) → to_z w32 (of_z w32 (x *ℤ y)) ≡ a *ℤ b
product_is x y a b e f fits = (λ t. to_z w32 (of_z w32 (e t *ℤ f t))) ∙ to_z-of_z w32 (a *ℤ b) fits

pub sum_is : (x y a b : ℤ) → x ≡ a → y ≡ b → neg_ℤ (pos (2 ^ 21)) ≤ℤ x → x ≤ℤ pos (2 ^ 21) → neg_ℤ (pos (2 ^ 21)) ≤ℤ y → y ≤ℤ pos (2 ^ 21) → to_z w32 (of_z w32 (to_z w32 (of_z w32 x) +ℤ to_z w32 (of_z w32 y))) ≡ a +ℤ b
sum_is x y a b e f x_low x_high y_low y_high =
    let plain : to_z w32 (of_z w32 (to_z w32 (of_z w32 x) +ℤ to_z w32 (of_z w32 y))) ≡ x +ℤ y = omega (arith, ints) in
    plain ∙ (λ t. e t +ℤ f t)

-- a number that went to its bits and was read again
pub read_32 : {z x : ℤ} → SFits w32 z → z ≡ x → to_z w32 (of_z w32 z) ≡ x
read_32 {z} fits e = to_z-of_z w32 z fits ∙ e

pub read_16 : {z x : ℤ} → SFits w16 z → z ≡ x → to_z w16 (of_z w16 z) ≡ x
read_16 {z} fits e = to_z-of_z w16 z fits ∙ e

pub distance_is : (r : Region) (i j d : ℤ) → d ≡ int_min (int_min (i -ℤ r.x0) (r.x1 -ℤ i)) (int_min (j -ℤ r.y0) (r.y1 -ℤ j)) → d ≡ border_distance r i j
unfolding border_distance
distance_is r i j d e = e

pub share_is : (k : ℕ) (coarsest : Bool) (r : Region) (i j s : ℤ) → coarsest ≡ false → s ≡ int_max (pos 0) (pos (blend_width k) -ℤ border_distance r i j) → s ≡ blend_share k coarsest r i j
unfolding blend_share
share_is k coarsest r i j s e same = rw e same
