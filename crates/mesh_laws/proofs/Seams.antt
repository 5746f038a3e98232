-- The heights on both sides of a border: at the border of a finer active region the blend is all the coarser level's, and there the coarser level has none.
use Rattle.std.proofs.Common.{◌≡◌, ℕ, ◌+◌, ◌-◌, ◌*◌, ◌/◌, ◌^◌, ◌<◌, ◌≤◌, max, Bool, true, false, ◌==◌, List, ℤ, pos, ◌+ℤ◌, ◌-ℤ◌, ◌*ℤ◌, ◌≤ℤ◌, length, refl, ap, sym, ◌∙◌, arith}
use Rattle.std.proofs.lemmas.Int.{ints, clamps}
use Rattle.std.specs.Ordering.{int_eq}
use Rattle.std.proofs.lemmas.Bool.{and_parts}
use Rattle.std.proofs.lemmas.Bool.Decides.{Decides-int_eq}
use Rattle.clip_regions.specs.declared.region.Region.{Region}
use Rattle.clip_regions.specs.Regions.{contains}
use Rattle.plan_model.specs.Limits.{IsSize}
use Rattle.plan_model.specs.Window.{margin, blend_width}
use Rattle.terrain_model.specs.Terrain.{Terrain, level_height}
use Rattle.active_region.specs.Active.{AreActive, AreDrawn}
use Rattle.mesh_model.specs.Height.{border_distance, blend_share, blended_height, active_at, lower_end, upper_end, vertex_height}
use Rattle.mesh_model.specs.Vertices.{hole}
use Rattle.mesh_model.specs.Watertight.{HeightsAgree, is_on_border}
use Rattle.mesh_laws.proofs.Rectangles.{IsDeep, hole_deep}
use Rattle.mesh_laws.proofs.Sizes.{inner_of}
use Rattle.mesh_laws.proofs.Heights.{AreWeights, weights_of}
use Rattle.clip_regions.proofs.Cells.{Lies, lies, cell_in}
use Rattle.mesh_model.proofs.Rectangles.{half_and_rest, rem_below, into_hole}

-- half of an even number, and of the one after it
pub lower_of_twice : (i : ℤ) → lower_end (pos 2 *ℤ i) ≡ i
unfolding lower_end
lower_of_twice i =
    let whole = half_and_rest (pos 2 *ℤ i) in
    let rest = rem_below (pos 2 *ℤ i) in
    omega (arith, ints)

pub upper_of_twice : (i : ℤ) → upper_end (pos 2 *ℤ i) ≡ i
unfolding upper_end
upper_of_twice i =
    let whole = half_and_rest (pos 2 *ℤ i +ℤ pos 1) in
    let rest = rem_below (pos 2 *ℤ i +ℤ pos 1) in
    omega (arith, ints)

pub lower_of_next : (i : ℤ) → lower_end (pos 2 *ℤ i +ℤ pos 1) ≡ i
unfolding lower_end
lower_of_next i =
    let whole = half_and_rest (pos 2 *ℤ i +ℤ pos 1) in
    let rest = rem_below (pos 2 *ℤ i +ℤ pos 1) in
    omega (arith, ints)

pub upper_of_next : (i : ℤ) → upper_end (pos 2 *ℤ i +ℤ pos 1) ≡ i +ℤ pos 1
unfolding upper_end
upper_of_next i =
    let whole = half_and_rest (pos 2 *ℤ i +ℤ pos 1 +ℤ pos 1) in
    let rest = rem_below (pos 2 *ℤ i +ℤ pos 1 +ℤ pos 1) in
    omega (arith, ints)

-- ---- shares
-- at the border of a level that isn't the coarsest all of the blend is the coarser level's
share_at_border : (k : ℕ) (r : Region) (i j : ℤ) → border_distance r i j ≡ pos 0 → blend_share k false r i j ≡ pos (blend_width k)
unfolding blend_share
share_at_border k r i j at = omega (arith, ints, clamps, at)

-- from the blend width on, and at the coarsest level, none of it is
share_inside : (k : ℕ) (coarsest : Bool) (r : Region) (i j : ℤ) → pos (blend_width k) ≤ℤ border_distance r i j → blend_share k coarsest r i j ≡ pos 0
unfolding blend_share
share_inside k true r i j deep = refl
share_inside k false r i j deep = omega (arith, ints, clamps, deep)

-- ---- blended heights by these shares
pub record HasWeights (w : ℕ) : Type 0 where
  pub own : w * (32 / w) ≡ 32
  pub ends : w * (16 / w) ≡ 16

pub weights : (k : ℕ) → IsSize k → HasWeights (blend_width k)
unfolding blend_width
weights k size =
    let are : AreWeights (2 ^ (k - 4)) = weights_of (k - 4) (omega (arith, size.high)) in
    let twice : 2 ^ (k - 4) * (32 / 2 ^ (k - 4)) ≡ 2 ^ (k - 4) * (2 * (16 / 2 ^ (k - 4))) = ap (λ n. 2 ^ (k - 4) * n) are.twice in
    record { own = are.whole; ends = omega (arith, twice, are.whole) }

-- all of it: sixteen times the sum of both ends
all_share : (w q p : ℕ) (t own a b : ℤ) → t ≡ pos w → w * p ≡ 16 → (pos w -ℤ t) *ℤ pos q *ℤ own +ℤ t *ℤ pos p *ℤ (a +ℤ b) ≡ pos 16 *ℤ (a +ℤ b)
all_share w q p t own a b e weight =
    let none : pos w -ℤ t ≡ pos 0 = omega (arith, ints, e) in
    let ends : t *ℤ pos p ≡ pos 16 = ap (λ x. x *ℤ pos p) e ∙ ap pos weight in
    (λ n. none n *ℤ pos q *ℤ own +ℤ ends n *ℤ (a +ℤ b)) ∙ omega (arith, ints)

-- none of it: the height of the level itself
no_share : (w q p : ℕ) (t own a b : ℤ) → t ≡ pos 0 → w * q ≡ 32 → (pos w -ℤ t) *ℤ pos q *ℤ own +ℤ t *ℤ pos p *ℤ (a +ℤ b) ≡ pos 32 *ℤ own
no_share w q p t own a b e weight =
    let all : pos w -ℤ t ≡ pos w = omega (arith, ints, e) in
    let whole : (pos w -ℤ t) *ℤ pos q ≡ pos 32 = ap (λ x. x *ℤ pos q) all ∙ ap pos weight in
    let none : t *ℤ pos p ≡ pos 0 = ap (λ x. x *ℤ pos p) e ∙ ap pos (omega arith) in
    (λ n. whole n *ℤ own +ℤ none n *ℤ (a +ℤ b)) ∙ omega (arith, ints)

-- ---- heights of vertices
-- on the border of a level that isn't the coarsest
pub height_at_border : (terrain : Terrain) (k : ℕ) (actives : List Region) (level : ℕ) (i j : ℤ) → IsSize k → level + 1 < length actives →
    border_distance (active_at actives level) i j ≡ pos 0 →
    vertex_height terrain k actives level i j
    ≡ pos 16 *ℤ (level_height terrain (level + 1) (lower_end i) (lower_end j) +ℤ level_height terrain (level + 1) (upper_end i) (upper_end j))
unfolding vertex_height blended_height
height_at_border terrain k actives level i j size low at =
    let r = active_at actives level in
    let finer : (level + 1 == length actives) ≡ false = grind (arith, low) in
    let share : blend_share k (level + 1 == length actives) r i j ≡ pos (blend_width k) = ap (λ c. blend_share k c r i j) finer ∙ share_at_border k r i j at in
    all_share (blend_width k) (32 / blend_width k) (16 / blend_width k) (blend_share k (level + 1 == length actives) r i j) (level_height terrain level i j)
    (level_height terrain (level + 1) (lower_end i) (lower_end j)) (level_height terrain (level + 1) (upper_end i) (upper_end j)) share (weights k size).ends

-- at least the blend width inside
pub height_inside : (terrain : Terrain) (k : ℕ) (actives : List Region) (level : ℕ) (i j : ℤ) → IsSize k →
    pos (blend_width k) ≤ℤ border_distance (active_at actives level) i j →
    vertex_height terrain k actives level i j ≡ pos 32 *ℤ level_height terrain level i j
unfolding vertex_height blended_height
height_inside terrain k actives level i j size deep =
    let r = active_at actives level in
    no_share (blend_width k) (32 / blend_width k) (16 / blend_width k) (blend_share k (level + 1 == length actives) r i j) (level_height terrain level i j)
    (level_height terrain (level + 1) (lower_end i) (lower_end j)) (level_height terrain (level + 1) (upper_end i) (upper_end j))
    (share_inside k (level + 1 == length actives) r i j deep) (weights k size).own

-- ---- both sides of a border
-- a cell of half of the finer region lies at least the blend width inside the coarser one
pub deep_distance : (k : ℕ) (a b : Region) (i j : ℤ) → IsDeep (margin k) a b → Lies b i j → pos (blend_width k) ≤ℤ border_distance a i j
unfolding border_distance margin
deep_distance k a b i j d l =
    let wide : blend_width k ≤ max 2 (blend_width k) = omega arith in
    let dw = d.west in
    let de = d.east in
    let dn = d.north in
    let ds = d.south in
    let lw = l.west in
    let le = l.east in
    let ln = l.north in
    let ls = l.south in
    omega (arith, ints, clamps, wide, dw, de, dn, ds, lw, le, ln, ls)

pub heights_agree : (terrain : Terrain) (k : ℕ) (actives : List Region) → IsSize k → AreDrawn k actives → (level : ℕ) (i j : ℤ) → level + 1 < length actives →
    contains (active_at actives level) (pos 2 *ℤ i) (pos 2 *ℤ j) ≡ true → border_distance (active_at actives level) (pos 2 *ℤ i) (pos 2 *ℤ j) ≡ pos 0 →
    vertex_height terrain k actives level (pos 2 *ℤ i) (pos 2 *ℤ j) ≡ vertex_height terrain k actives (level + 1) i j
heights_agree terrain k actives size drawn level i j low there at =
    let a = active_at actives level in
    let b = active_at actives (level + 1) in
    let active : AreActive actives = record { k = k; size = size; drawn = drawn } in
    let inside : Lies (hole a) i j = into_hole a i j (lies a (pos 2 *ℤ i) (pos 2 *ℤ j) there) in
    let deep : IsDeep (margin k) b (hole a) = hole_deep (margin k) a b (inner_of actives level active low) (cell_in (hole a) i j inside) in
    height_at_border terrain k actives level (pos 2 *ℤ i) (pos 2 *ℤ j) size low at
    ∙ (λ t. pos 16 *ℤ (level_height terrain (level + 1) (lower_of_twice i t) (lower_of_twice j t) +ℤ level_height terrain (level + 1) (upper_of_twice i t) (upper_of_twice j t)))
    ∙ omega (arith, ints)
    ∙ sym (height_inside terrain k actives (level + 1) i j size (deep_distance k b (hole a) i j deep inside))

pub agreeing : (terrain : Terrain) (k : ℕ) (actives : List Region) → IsSize k → AreDrawn k actives → HeightsAgree terrain k actives
unfolding is_on_border
agreeing terrain k actives size drawn = λ level i j low border _.
    let a = active_at actives level in
    let distance = border_distance a (pos 2 *ℤ i) (pos 2 *ℤ j) in
    let parts : (contains a (pos 2 *ℤ i) (pos 2 *ℤ j) ≡ true) × (int_eq distance (pos 0) ≡ true) =
    and_parts (contains a (pos 2 *ℤ i) (pos 2 *ℤ j)) (int_eq distance (pos 0)) border in
    heights_agree terrain k actives size drawn level i j low parts.0 ((Decides-int_eq distance (pos 0)).0 parts.1)
