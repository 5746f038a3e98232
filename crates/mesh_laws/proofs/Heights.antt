-- How large the height of a vertex is: the mean of heights of 16 bits, in thirty-seconds of a metre.
use Rattle.std.proofs.Common.{◌≡◌, ℕ, zero, suc, ◌+◌, ◌-◌, ◌*◌, ◌/◌, ◌^◌, ◌≤◌, Bool, true, false, ◌&&◌, ◌==◌, nat_lt, FitsSigned, List, ℤ, pos, negsuc, ◌+ℤ◌, ◌-ℤ◌, ◌*ℤ◌, ◌≤ℤ◌, length, get_or, w16, refl, ap, sym, subst, inl, inr, arith}
use Rattle.std.specs.Int.{int_min, int_max}
use Rattle.std.proofs.lemmas.Int.{ints, clamps}
use Rattle.std.proofs.lemmas.Bool.{cases_Bool, cases_lt}
use Rattle.std.proofs.lemmas.List.{get_or_past}
use Rattle.std.proofs.Math.Nat.{mul-le-mul, le_refl}
use borrow.Author.Differences.{up, down}
use Rattle.clip_regions.specs.declared.region.Region.{Region}
use Rattle.clip_regions.specs.Regions.{contains}
use Rattle.plan_model.specs.Limits.{IsSize}
use Rattle.plan_model.specs.Window.{blend_width}
use Rattle.terrain_model.specs.Terrain.{Terrain, IsTerrain, height_at, level_height}
use Rattle.mesh_model.specs.Height.{border_distance, blend_share, blended_height, active_at, lower_end, upper_end, vertex_height}
use Rattle.mesh_laws.specs.Conditions.{IsAtMost}
use Rattle.clip_regions.proofs.Cells.{Lies, lies}

-- ---- heights of a terrain
short : (x : ℤ) → FitsSigned w16 x → IsAtMost (2 ^ 15) x
short x h = record { low = omega (arith, ints, h); high = omega (arith, ints, h) }

nothing : IsAtMost (2 ^ 15) (pos 0)
nothing = record { low = omega (arith, ints); high = omega (arith, ints) }

sample_short : (terrain : Terrain) (n : ℕ) → IsTerrain terrain → IsAtMost (2 ^ 15) (get_or terrain.table n (pos 0))
sample_short terrain n is =
    elim (cases_lt n (length terrain.table)) [
      | inl low ↦ short (get_or terrain.table n (pos 0)) (is.short_heights n (pos 0) low)
      | inr past ↦ subst (IsAtMost (2 ^ 15)) (sym (get_or_past terrain.table n (pos 0) past)) nothing
    ]

height_short : (terrain : Terrain) (x y : ℤ) → IsTerrain terrain → IsAtMost (2 ^ 15) (height_at terrain x y)
unfolding height_at
height_short terrain (pos x) (pos y) is =
    elim (cases_Bool (nat_lt x terrain.width && nat_lt y terrain.height)) [
      | inl e ↦ rw e (sample_short terrain (y * terrain.width + x) is)
      | inr e ↦ rw e nothing
    ]
height_short terrain (pos x) (negsuc y) is = nothing
height_short terrain (negsuc x) y is = nothing

-- ---- means
-- n times a number of at most m
times_at_most : (n m : ℕ) (x : ℤ) → IsAtMost m x → IsAtMost (n * m) (pos n *ℤ x)
times_at_most n m x h =
    let below : up x ≤ m + down x = omega (arith, ints, h.high) in
    let above : down x ≤ m + up x = omega (arith, ints, h.low) in
    let scaled_below : n * up x ≤ n * (m + down x) = mul-le-mul (le_refl n) below in
    let scaled_above : n * down x ≤ n * (m + up x) = mul-le-mul (le_refl n) above in
    record { low = omega (arith, ints, scaled_above); high = omega (arith, ints, scaled_below) }

sum_at_most : (n m l : ℕ) (x y : ℤ) → n + m ≡ l → IsAtMost n x → IsAtMost m y → IsAtMost l (x +ℤ y)
sum_at_most n m l x y e hx hy =
    let xl = hx.low in
    let xh = hx.high in
    let yl = hy.low in
    let yh = hy.high in
    record { low = omega (arith, ints, xl, yl, e); high = omega (arith, ints, xh, yh, e) }

-- the share of the coarser level is part of the blend width
record IsShare (w : ℕ) (t : ℤ) : Type 0 where
  m : ℕ
  few : m ≤ w
  is : t ≡ pos m

share_of : (w : ℕ) (t : ℤ) → pos 0 ≤ℤ t → t ≤ℤ pos w → IsShare w t
share_of w (pos m) low high = record { m = m; few = omega (arith, ints); is = refl }
share_of w (negsuc m) low high = absurd (omega (arith, ints))

share_is : (k : ℕ) (coarsest : Bool) (r : Region) (i j : ℤ) → Lies r i j → IsShare (blend_width k) (blend_share k coarsest r i j)
unfolding blend_share border_distance
share_is k true r i j l = record { m = 0; few = omega arith; is = refl }
share_is k false r i j l =
    let w = l.west in
    let e = l.east in
    let n = l.north in
    let s = l.south in
    share_of (blend_width k) (int_max (pos 0) (pos (blend_width k) -ℤ int_min (int_min (i -ℤ r.x0) (r.x1 -ℤ i)) (int_min (j -ℤ r.y0) (r.y1 -ℤ j))))
    (omega (arith, ints, clamps)) (omega (arith, ints, clamps, w, e, n, s))

-- the mean of a height and half of two others
mean_at_most : (w q p m : ℕ) (t own a b : ℤ) → w * q ≡ 32 → q ≡ 2 * p → m ≤ w → t ≡ pos m → IsAtMost (2 ^ 15) own → IsAtMost (2 ^ 15) a → IsAtMost (2 ^ 15) b →
    IsAtMost (2 ^ 20) ((pos w -ℤ t) *ℤ pos q *ℤ own +ℤ t *ℤ pos p *ℤ (a +ℤ b))
mean_at_most w q p m t own a b eq ep few et ho ha hb =
    let rest : pos w -ℤ t ≡ pos (w - m) = omega (arith, ints) in
    let own_weight : (pos w -ℤ t) *ℤ pos q ≡ pos ((w - m) * q) = ap (λ x. x *ℤ pos q) rest in
    let other_weight : t *ℤ pos p ≡ pos (m * p) = ap (λ x. x *ℤ pos p) et in
    let all : (w - m + m) * q ≡ w * q = ap (λ n. n * q) (omega arith) in
    let twice : m * q ≡ m * (2 * p) = ap (λ n. m * n) ep in
    let weights : (w - m) * q + 2 * (m * p) ≡ 32 = omega (arith, all, twice, eq) in
    let first : IsAtMost ((w - m) * q * 2 ^ 15) (pos ((w - m) * q) *ℤ own) = times_at_most ((w - m) * q) (2 ^ 15) own ho in
    let second : IsAtMost (m * p * 2 ^ 16) (pos (m * p) *ℤ (a +ℤ b)) = times_at_most (m * p) (2 ^ 16) (a +ℤ b) (sum_at_most (2 ^ 15) (2 ^ 15) (2 ^ 16) a b refl ha hb) in
    subst (IsAtMost (2 ^ 20)) (λ n. sym own_weight n *ℤ own +ℤ sym other_weight n *ℤ (a +ℤ b))
    (sum_at_most ((w - m) * q * 2 ^ 15) (m * p * 2 ^ 16) (2 ^ 20) (pos ((w - m) * q) *ℤ own) (pos (m * p) *ℤ (a +ℤ b)) (omega (arith, weights)) first second)

-- the weights of the five sizes
pub record AreWeights (w : ℕ) : Type 0 where
  pub whole : w * (32 / w) ≡ 32
  pub twice : 32 / w ≡ 2 * (16 / w)

pub weights_of : (m : ℕ) → m ≤ 4 → AreWeights (2 ^ m)
weights_of zero h = record { whole = refl; twice = refl }
weights_of (suc zero) h = record { whole = refl; twice = refl }
weights_of (suc (suc zero)) h = record { whole = refl; twice = refl }
weights_of (suc (suc (suc zero))) h = record { whole = refl; twice = refl }
weights_of (suc (suc (suc (suc zero)))) h = record { whole = refl; twice = refl }
weights_of (suc (suc (suc (suc (suc m))))) h = absurd (omega arith)

pub height_at_most : (terrain : Terrain) (k : ℕ) (actives : List Region) (level : ℕ) (i j : ℤ) → IsTerrain terrain → IsSize k → contains (active_at actives level) i j ≡ true →
    IsAtMost (2 ^ 20) (vertex_height terrain k actives level i j)
unfolding vertex_height blended_height blend_width level_height
height_at_most terrain k actives level i j is size there =
    let r = active_at actives level in
    let w = 2 ^ (k - 4) in
    let t = blend_share k (level + 1 == length actives) r i j in
    let share : IsShare w t = share_is k (level + 1 == length actives) r i j (lies r i j there) in
    let weights : AreWeights w = weights_of (k - 4) (omega (arith, size.high)) in
    mean_at_most w (32 / w) (16 / w) share.m t (level_height terrain level i j) (level_height terrain (level + 1) (lower_end i) (lower_end j)) (level_height terrain (level + 1) (upper_end i) (upper_end j))
    weights.whole weights.twice share.few share.is
    (height_short terrain (i *ℤ pos (2 ^ level)) (j *ℤ pos (2 ^ level)) is)
    (height_short terrain (lower_end i *ℤ pos (2 ^ (level + 1))) (lower_end j *ℤ pos (2 ^ (level + 1))) is)
    (height_short terrain (upper_end i *ℤ pos (2 ^ (level + 1))) (upper_end j *ℤ pos (2 ^ (level + 1))) is)
