-- The cells of a region of a frame lie near the mosaic's corner, in samples.
use Rattle.std.proofs.Common.{◌≡◌, ℕ, ◌+◌, ◌*◌, ◌^◌, ◌<◌, ◌≤◌, List, true, ℤ, pos, negsuc, neg_ℤ, ◌+ℤ◌, ◌-ℤ◌, ◌*ℤ◌, ◌≤ℤ◌, length, get_or, ap, sym, subst, ◌∙◌, inl, inr, arith}
use Rattle.std.proofs.lemmas.Int.{ints}
use Rattle.std.proofs.lemmas.Nat.{pow-add}
use Rattle.std.proofs.Math.Nat.{mul-le-mul, le_refl}
use Rattle.std.proofs.Math.Pow.{pow_mono}
use borrow.Author.Differences.{up, down, sum_is_lem, product_is}
use Rattle.clip_regions.specs.declared.region.Region.{Region}
use Rattle.clip_regions.specs.FloorDivision.{floor_div, floor_rem}
use Rattle.clip_regions.specs.Regions.{contains, empty_region}
use Rattle.plan_model.specs.Limits.{IsSize, IsViewed}
use Rattle.plan_model.specs.Window.{window, center, half_width, IsInReach}
use Rattle.plan_model.specs.Sound.{IsInside, IsShown}
use Rattle.mesh_model.specs.Height.{active_at}
use Rattle.active_region.specs.Active.{AreActive}
use Rattle.mesh_laws.specs.Conditions.{IsNear}
use Rattle.mesh_laws.proofs.Sizes.{half_at_most}
use Rattle.clip_regions.proofs.Cells.{lies}
use Rattle.clip_regions.proofs.Quotients.{rem_below, quotient_and_rest}

-- ---- products
pub sum_times : (a b : ℤ) (p : ℕ) → (a +ℤ b) *ℤ pos p ≡ a *ℤ pos p +ℤ b *ℤ pos p
sum_times a b p =
    let scaled : (up (a +ℤ b) + (down a + down b)) * p ≡ (down (a +ℤ b) + (up a + up b)) * p = ap (λ (n : ℕ). n * p) (omega (arith, sum_is_lem a b)) in
    omega (arith, ints, scaled)

difference_times : (a : ℤ) (h p : ℕ) → (a -ℤ pos h) *ℤ pos p ≡ a *ℤ pos p -ℤ pos (h * p)
difference_times a h p =
    let parts : up (a -ℤ pos h) + (down a + h) ≡ down (a -ℤ pos h) + up a = omega (arith, ints) in
    let scaled : (up (a -ℤ pos h) + (down a + h)) * p ≡ (down (a -ℤ pos h) + up a) * p = ap (λ (n : ℕ). n * p) parts in
    omega (arith, ints, scaled)

pub twice_times : (q : ℤ) (p : ℕ) → (pos 2 *ℤ q) *ℤ pos p ≡ pos (2 * p) *ℤ q
twice_times q p =
    let above : up (pos 2 *ℤ q) ≡ 2 * up q = omega (arith, product_is (pos 2) q) in
    let below : down (pos 2 *ℤ q) ≡ 2 * down q = omega (arith, product_is (pos 2) q) in
    let scaled_above : up (pos 2 *ℤ q) * p ≡ (2 * up q) * p = ap (λ (n : ℕ). n * p) above in
    let scaled_below : down (pos 2 *ℤ q) * p ≡ (2 * down q) * p = ap (λ (n : ℕ). n * p) below in
    omega (arith, ints, scaled_above, scaled_below)

pub order_times : (a b : ℤ) (p : ℕ) → a ≤ℤ b → (a *ℤ pos p) ≤ℤ (b *ℤ pos p)
order_times a b p h =
    let gap : up a + down b ≤ up b + down a = omega (arith, ints) in
    let scaled : (up a + down b) * p ≤ (up b + down a) * p = mul-le-mul gap (le_refl p) in
    omega (arith, ints, scaled)

pub unit_times : (p : ℕ) → pos 1 *ℤ pos p ≡ pos p
unit_times p = omega (arith, ints)

-- the centre for the quotient q, in samples: p is the spacing of the level
center_in_samples : (q : ℤ) (p : ℕ) → (pos 2 *ℤ q +ℤ pos 1) *ℤ pos p ≡ pos (2 * p) *ℤ q +ℤ pos p
center_in_samples q p =
    sum_times (pos 2 *ℤ q) (pos 1) p ∙ (λ t. twice_times q p t +ℤ unit_times p t)

-- ---- centres
-- a centre lies within one spacing of the viewer
record IsCentered (z v : ℤ) (p : ℕ) : Type 0 where
  west : (v -ℤ pos p) ≤ℤ (z *ℤ pos p)
  east : (z *ℤ pos p) ≤ℤ (v +ℤ pos p)

centered_by : (v q : ℤ) (p r : ℕ) → v ≡ pos (2 * p) *ℤ q +ℤ pos r → r < 2 * p → IsCentered (pos 2 *ℤ q +ℤ pos 1) v p
centered_by v q p r e below =
    let samples : (pos 2 *ℤ q +ℤ pos 1) *ℤ pos p ≡ pos (2 * p) *ℤ q +ℤ pos p = center_in_samples q p in
    record {
      west = subst (λ (x : ℤ). (v -ℤ pos p) ≤ℤ x) (sym samples) (omega (arith, ints));
      east = subst (λ (x : ℤ). x ≤ℤ (v +ℤ pos p)) (sym samples) (omega (arith, ints));
    }

centered : (level : ℕ) (v : ℤ) → IsCentered (center level v) v (2 ^ level)
unfolding center
centered level v =
    let some : 1 ≤ 2 ^ level = pow_mono {i = 0} {j = level} (omega arith) in
    let twice : 2 ^ (level + 1) ≡ 2 * 2 ^ level = pow-add 2 level 1 ∙ omega arith in
    let d : ℕ = 2 ^ (level + 1) in
    let below : floor_rem v d < d = rem_below v d (omega (arith, some, twice)) in
    let whole : v ≡ pos d *ℤ floor_div v d +ℤ pos (floor_rem v d) = quotient_and_rest v d (omega (arith, some, twice)) in
    centered_by v (floor_div v d) (2 ^ level) (floor_rem v d) (whole ∙ ap (λ (n : ℕ). pos n *ℤ floor_div v d +ℤ pos (floor_rem v d)) twice) (omega (arith, below, twice))

corner_west : (z v : ℤ) (h p : ℕ) → h ≤ 127 → p ≤ 2048 → neg_ℤ (pos 4194304) ≤ℤ v → (v -ℤ pos p) ≤ℤ (z *ℤ pos p) → neg_ℤ (pos (2 ^ 23)) ≤ℤ ((z -ℤ pos h) *ℤ pos p)
corner_west z v h p hm pm low near =
    let product : h * p ≤ 127 * 2048 = mul-le-mul hm pm in
    let parts : (z -ℤ pos h) *ℤ pos p ≡ z *ℤ pos p -ℤ pos (h * p) = difference_times z h p in
    let placed : neg_ℤ (pos (2 ^ 23)) ≤ℤ (z *ℤ pos p -ℤ pos (h * p)) = omega (arith, ints) in
    subst (λ (x : ℤ). neg_ℤ (pos (2 ^ 23)) ≤ℤ x) (sym parts) placed

corner_east : (z v : ℤ) (h p : ℕ) → h ≤ 127 → p ≤ 2048 → v ≤ℤ pos 4194304 → (z *ℤ pos p) ≤ℤ (v +ℤ pos p) → ((z +ℤ pos h) *ℤ pos p) ≤ℤ pos (2 ^ 23)
corner_east z v h p hm pm high near =
    let product : h * p ≤ 127 * 2048 = mul-le-mul hm pm in
    let parts : (z +ℤ pos h) *ℤ pos p ≡ z *ℤ pos p +ℤ pos (h * p) = sum_times z (pos h) p in
    let placed : (z *ℤ pos p +ℤ pos (h * p)) ≤ℤ pos (2 ^ 23) = omega (arith, ints) in
    subst (λ (x : ℤ). x ≤ℤ pos (2 ^ 23)) (sym parts) placed

-- ---- regions
along : (a b c : ℤ) → a ≤ℤ b → b ≤ℤ c → a ≤ℤ c
along a b c h k = omega (arith, ints)

inside_reach : (k level : ℕ) (x y : ℤ) (r : Region) → IsSize k → level ≤ 11 → IsViewed x → IsViewed y → IsInside (window k level x y) r → IsInReach level r
unfolding window
inside_reach k level x y r size low vx vy inside =
    let h : ℕ = half_width k in
    let p : ℕ = 2 ^ level in
    let few : h ≤ 127 = half_at_most k size in
    let spacing : p ≤ 2048 = pow_mono {i = level} {j = 11} low in
    let cx : IsCentered (center level x) x p = centered level x in
    let cy : IsCentered (center level y) y p = centered level y in
    let wx : neg_ℤ (pos (2 ^ 23)) ≤ℤ ((center level x -ℤ pos h) *ℤ pos p) = corner_west (center level x) x h p few spacing vx.low cx.west in
    let wy : neg_ℤ (pos (2 ^ 23)) ≤ℤ ((center level y -ℤ pos h) *ℤ pos p) = corner_west (center level y) y h p few spacing vy.low cy.west in
    let ex : ((center level x +ℤ pos h) *ℤ pos p) ≤ℤ pos (2 ^ 23) = corner_east (center level x) x h p few spacing vx.high cx.east in
    let ey : ((center level y +ℤ pos h) *ℤ pos p) ≤ℤ pos (2 ^ 23) = corner_east (center level y) y h p few spacing vy.high cy.east in
    record {
      west = along (neg_ℤ (pos (2 ^ 23))) ((center level x -ℤ pos h) *ℤ pos p) (r.x0 *ℤ pos p) wx (order_times (center level x -ℤ pos h) r.x0 p inside.west);
      north = along (neg_ℤ (pos (2 ^ 23))) ((center level y -ℤ pos h) *ℤ pos p) (r.y0 *ℤ pos p) wy (order_times (center level y -ℤ pos h) r.y0 p inside.north);
      east = along (r.x1 *ℤ pos p) ((center level x +ℤ pos h) *ℤ pos p) (pos (2 ^ 23)) (order_times r.x1 (center level x +ℤ pos h) p inside.east) ex;
      south = along (r.y1 *ℤ pos p) ((center level y +ℤ pos h) *ℤ pos p) (pos (2 ^ 23)) (order_times r.y1 (center level y +ℤ pos h) p inside.south) ey;
    }

one_before : (p : ℕ) → p ≤ 2048 → (negsuc 0 *ℤ pos p) ≤ℤ pos (2 ^ 23)
one_before p h = omega (arith, ints)

none_times : (p : ℕ) → neg_ℤ (pos (2 ^ 23)) ≤ℤ (pos 0 *ℤ pos p)
none_times p = omega (arith, ints)

empty_reach : (level : ℕ) → level ≤ 11 → IsInReach level empty_region
empty_reach level low =
    let spacing : 2 ^ level ≤ 2048 = pow_mono {i = level} {j = 11} low in
    record { west = none_times (2 ^ level); north = none_times (2 ^ level); east = one_before (2 ^ level) spacing; south = one_before (2 ^ level) spacing }

shown_reach : (k level : ℕ) (r : Region) → IsSize k → level ≤ 11 → IsShown k level r → IsInReach level r
shown_reach k level r size low shown =
    elim shown.part [
      | inl none ↦ subst (IsInReach level) (sym none) (empty_reach level low)
      | inr some ↦ inside_reach k level shown.x shown.y r size low shown.column shown.row some.inside
    ]

pub reach_of : (actives : List Region) (level : ℕ) → AreActive actives → level < length actives → IsInReach level (active_at actives level)
unfolding active_at
reach_of actives level drawn low =
    let many = drawn.drawn.many.high in
    shown_reach drawn.k level (get_or actives level empty_region) drawn.size (omega arith) (drawn.drawn.shown level low)

between : (a i b : ℤ) (p : ℕ) → a ≤ℤ i → i ≤ℤ b → neg_ℤ (pos (2 ^ 23)) ≤ℤ (a *ℤ pos p) → (b *ℤ pos p) ≤ℤ pos (2 ^ 23) →
    (neg_ℤ (pos (2 ^ 23)) ≤ℤ (i *ℤ pos p)) × ((i *ℤ pos p) ≤ℤ pos (2 ^ 23))
between a i b p ai ib low high = (
  along (neg_ℤ (pos (2 ^ 23))) (a *ℤ pos p) (i *ℤ pos p) low (order_times a i p ai),
  along (i *ℤ pos p) (b *ℤ pos p) (pos (2 ^ 23)) (order_times i b p ib) high,
)

-- and so does each of its cells
pub near_of : (actives : List Region) (level : ℕ) (i j : ℤ) → AreActive actives → level < length actives → contains (active_at actives level) i j ≡ true →
    IsNear level i × IsNear level j
near_of actives level i j drawn low there =
    let r = active_at actives level in
    let cell = lies r i j there in
    let reach = reach_of actives level drawn low in
    let across = between r.x0 i r.x1 (2 ^ level) cell.west cell.east reach.west reach.east in
    let down = between r.y0 j r.y1 (2 ^ level) cell.north cell.south reach.north reach.south in
    (record { low = across.0; high = across.1 }, record { low = down.0; high = down.1 })
