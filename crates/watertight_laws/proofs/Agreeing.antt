-- Where levels meet both give one height, for any nested regions: at the border all is the coarser level's, and a margin inside nothing is blended.
use Rattle.std.proofs.Common.{◌≡◌, ℕ, suc, ◌+◌, ◌<◌, true, List, length, pos, ◌+ℤ◌, ◌*ℤ◌, sym, subst, ◌∙◌, arith}
use Rattle.std.specs.Ordering.{int_eq}
use Rattle.std.proofs.lemmas.Int.{ints}
use Rattle.std.proofs.lemmas.Bool.{and_parts}
use Rattle.clip_regions.specs.declared.region.Region.{Region}
use Rattle.clip_regions.specs.Regions.{contains, empty_region}
use Rattle.clip_regions.proofs.Cells.{Lies, lies, cell_in}
use Rattle.plan_model.specs.Limits.{IsSize}
use Rattle.plan_model.specs.Window.{margin}
use Rattle.plan_model.specs.Laws.{AreNested}
use Rattle.terrain_model.specs.Terrain.{Terrain, level_height}
use Rattle.mesh_model.specs.Height.{border_distance, active_at}
use Rattle.mesh_model.specs.Vertices.{hole}
use Rattle.mesh_model.specs.Watertight.{is_on_border, HeightsAgree}
use Rattle.mesh_model.proofs.Rectangles.{IsInner, into_hole}
use Rattle.mesh_laws.proofs.Rectangles.{IsDeep, hole_deep}
use Rattle.mesh_laws.proofs.Sizes.{inner_at}
use Rattle.mesh_laws.proofs.Seams.{lower_of_twice, upper_of_twice, deep_distance, height_at_border, height_inside}
use Rattle.watertight_laws.proofs.Picks.{same_from}

inner_at_next : (e : ℕ) (actives : List Region) (level : ℕ) → AreNested e actives → level + 1 < length actives → IsInner e (active_at actives level) (active_at actives (level + 1))
unfolding active_at
inner_at_next e actives level nested low =
    let next : suc level ≡ level + 1 = omega arith in
    subst (λ (n : ℕ). IsInner e (active_at actives level) (active_at actives n)) next (inner_at e actives level empty_region (omega (arith, low)) nested)

pub heights_agree : (terrain : Terrain) (k : ℕ) (actives : List Region) → IsSize k → AreNested (margin k) actives → HeightsAgree terrain k actives
unfolding is_on_border
heights_agree terrain k actives size nested = λ level i j low border _.
    let a = active_at actives level in
    let b = active_at actives (level + 1) in
    let distance = border_distance a (pos 2 *ℤ i) (pos 2 *ℤ j) in
    let parts : (contains a (pos 2 *ℤ i) (pos 2 *ℤ j) ≡ true) × (int_eq distance (pos 0) ≡ true) = and_parts (contains a (pos 2 *ℤ i) (pos 2 *ℤ j)) (int_eq distance (pos 0)) border in
    let inside : Lies (hole a) i j = into_hole a i j (lies a (pos 2 *ℤ i) (pos 2 *ℤ j) parts.0) in
    let deep : IsDeep (margin k) b (hole a) = hole_deep (margin k) a b (inner_at_next (margin k) actives level nested low) (cell_in (hole a) i j inside) in
    height_at_border terrain k actives level (pos 2 *ℤ i) (pos 2 *ℤ j) size low (same_from distance (pos 0) parts.1)
    ∙ (λ t. pos 16 *ℤ (level_height terrain (level + 1) (lower_of_twice i t) (lower_of_twice j t) +ℤ level_height terrain (level + 1) (upper_of_twice i t) (upper_of_twice j t)))
    ∙ omega (arith, ints)
    ∙ sym (height_inside terrain k actives (level + 1) i j size (deep_distance k b (hole a) i j deep inside))
