-- The corners of a window.
use Rattle.std.proofs.Common.{◌≡◌, ℕ, ◌+◌, ◌-◌, ◌*◌, ◌^◌, ◌≤◌, false, ℤ, pos, neg_ℤ, ◌+ℤ◌, ◌-ℤ◌, ◌*ℤ◌, ◌≤ℤ◌, sym, subst, arith}
use Rattle.std.proofs.lemmas.Int.{ints}
use Rattle.std.proofs.lemmas.Bool.{or_from}
use Rattle.std.proofs.Math.Nat.{mul-le-mul}
use lib.Signed.{lt_z}
use Rattle.clip_regions.specs.declared.region.Region.{Region}
use Rattle.clip_regions.specs.FloorDivision.{floor_div, floor_rem}
use Rattle.clip_regions.specs.Regions.{is_empty, HasEvenCorners}
use Rattle.plan_model.specs.Limits.{IsViewed}
use Rattle.plan_model.specs.Window.{window, center, half_width, IsInReach}
use Rattle.level_frame.proofs.Numbers.{sum_times, difference_times}
use Rattle.plan_model.proofs.Quotients.{even_from}
use Rattle.plan_model.proofs.WindowLaws.{half_is}

-- a corner that lies h before or after the centre, in samples
pub corner_west : (z v : ℤ) (h p : ℕ) → h ≤ 127 → p ≤ 2048 → neg_ℤ (pos 4194304) ≤ℤ v → (v -ℤ pos p) ≤ℤ (z *ℤ pos p) → neg_ℤ (pos (2 ^ 23)) ≤ℤ ((z -ℤ pos h) *ℤ pos p)
corner_west z v h p hm pm low near =
    let product : h * p ≤ 127 * 2048 = mul-le-mul hm pm in
    let parts : (z -ℤ pos h) *ℤ pos p ≡ z *ℤ pos p -ℤ pos (h * p) = difference_times z h p in
    let placed : neg_ℤ (pos (2 ^ 23)) ≤ℤ (z *ℤ pos p -ℤ pos (h * p)) = omega (arith, ints) in
    subst (λ (x : ℤ). neg_ℤ (pos (2 ^ 23)) ≤ℤ x) (sym parts) placed

pub corner_east : (z v : ℤ) (h p : ℕ) → h ≤ 127 → p ≤ 2048 → v ≤ℤ pos 4194304 → (z *ℤ pos p) ≤ℤ (v +ℤ pos p) → ((z +ℤ pos h) *ℤ pos p) ≤ℤ pos (2 ^ 23)
corner_east z v h p hm pm high near =
    let product : h * p ≤ 127 * 2048 = mul-le-mul hm pm in
    let parts : (z +ℤ pos h) *ℤ pos p ≡ z *ℤ pos p +ℤ pos (h * p) = sum_times z (pos h) p in
    let placed : (z *ℤ pos p +ℤ pos (h * p)) ≤ℤ pos (2 ^ 23) = omega (arith, ints) in
    subst (λ (x : ℤ). x ≤ℤ pos (2 ^ 23)) (sym parts) placed

-- ---- what is true of every window
even_before : (k level : ℕ) (v : ℤ) → 2 ≤ k → floor_rem (center level v -ℤ pos (half_width k)) 2 ≡ 0
unfolding center
even_before k level v h =
    let half : half_width k + 1 ≡ 2 * 2 ^ (k - 2) = half_is k h in
    even_from (pos 2 *ℤ floor_div v (2 ^ (level + 1)) +ℤ pos 1 -ℤ pos (half_width k)) (floor_div v (2 ^ (level + 1)) +ℤ pos 1 -ℤ pos (2 ^ (k - 2))) (omega (arith, ints))

even_after : (k level : ℕ) (v : ℤ) → 2 ≤ k → floor_rem (center level v +ℤ pos (half_width k)) 2 ≡ 0
unfolding center
even_after k level v h =
    let half : half_width k + 1 ≡ 2 * 2 ^ (k - 2) = half_is k h in
    even_from (pos 2 *ℤ floor_div v (2 ^ (level + 1)) +ℤ pos 1 +ℤ pos (half_width k)) (floor_div v (2 ^ (level + 1)) +ℤ pos (2 ^ (k - 2))) (omega (arith, ints))

pub window_even : (k level : ℕ) (x y : ℤ) → 2 ≤ k → HasEvenCorners (window k level x y)
unfolding window
window_even k level x y h = record {
  x0 = even_before k level x h;
  y0 = even_before k level y h;
  x1 = even_after k level x h;
  y1 = even_after k level y h;
}

not_less : (a b : ℤ) → b ≤ℤ a → lt_z a b ≡ false
not_less a b h = grind (arith, ints)

pub some_cell : (r : Region) → r.x0 ≤ℤ r.x1 → r.y0 ≤ℤ r.y1 → is_empty r ≡ false
unfolding is_empty
some_cell r h k = or_from (lt_z r.x1 r.x0) (lt_z r.y1 r.y0) (not_less r.x1 r.x0 h) (not_less r.y1 r.y0 k)

-- where the centre of an axis lies, for a viewer at v and a spacing of p
pub record IsCentered (z v : ℤ) (p : ℕ) : Type 0 where
  pub west : (v -ℤ pos p) ≤ℤ (z *ℤ pos p)
  pub east : (z *ℤ pos p) ≤ℤ (v +ℤ pos p)

pub centered_at : (z z' v v' : ℤ) (p : ℕ) → z' ≡ z → v' ≡ v → IsCentered z' v' p → IsCentered z v p
centered_at z z' v v' p e f h = subst (λ (x : ℤ). IsCentered x v p) e (subst (λ (x : ℤ). IsCentered z' x p) f h)

pub window_in_reach : (k level : ℕ) (x y : ℤ) → half_width k ≤ 127 → 2 ^ level ≤ 2048 → IsViewed x → IsViewed y → IsCentered (center level x) x (2 ^ level) → IsCentered (center level y) y (2 ^ level) → IsInReach level (window k level x y)
unfolding window
window_in_reach k level x y hm pm vx vy cx cy = record {
  west = corner_west (center level x) x (half_width k) (2 ^ level) hm pm vx.low cx.west;
  north = corner_west (center level y) y (half_width k) (2 ^ level) hm pm vy.low cy.west;
  east = corner_east (center level x) x (half_width k) (2 ^ level) hm pm vx.high cx.east;
  south = corner_east (center level y) y (half_width k) (2 ^ level) hm pm vy.high cy.east;
}
