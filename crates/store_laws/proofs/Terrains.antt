-- The terrain that bytes stand for is one, and that of the heights of their finest level.
use Rattle.std.proofs.Common.{◌≡◌, Bool, true, false, ltb, eqb, ℕ, zero, suc, ◌+◌, ◌*◌, ◌/◌, ◌%◌, ◌<◌, ◌≤◌, ℤ, pos, ◌*ℤ◌, List, [], get_or, FitsSigned, refl, ap, sym, ◌∙◌, subst, ⊎_elim, arith}
use Rattle.std.specs.Int.{w16}
use Rattle.std.proofs.lemmas.Int.{ints}
use Rattle.std.proofs.lemmas.Nat.{div_below, mod_below}
use Rattle.std.proofs.lemmas.Bool.{cases_Bool, false≢true}
use Rattle.std.proofs.lemmas.Bool.Decides.{nat_tests}
use Rattle.std.proofs.lemmas.List.{ext_get_or}
use mathlib.Core.Path.{ap₂}
use Rattle.clip_regions.specs.Regions.{contains}
use Rattle.terrain_model.specs.Terrain.{Terrain, IsTerrain, height_at, level_height}
use Rattle.terrain_model.specs.Laws.{FinestLevel, CoarserLevel}
use Rattle.four_point.specs.Steps.{value_of, brought}
use Rattle.four_point.specs.Laws.{EvenPrediction, BroughtSame}
use Rattle.store_model.specs.Sizes.{level_region}
use Rattle.store_model.specs.Blocks.{IsWordBlock}
use Rattle.store_model.specs.Format.{Head, IsSoundHead}
use Rattle.store_model.specs.Store.{Levels, region_of, IsBlockOf, IsFront, IsStore}
use Rattle.store_laws.proofs.Blocks.{OneList}
use Rattle.store_laws.proofs.Cells.{in_block}
use Rattle.store_laws.proofs.PlacesOf.{front_apart, front_split}
use Rattle.store_laws.proofs.Likeness.{front_like}
use Rattle.store_laws.proofs.OneStore.{same_store_heads}
use Rattle.store_model.proofs.RestoredLevels.{both, not_coded, region_doubled}

-- ---- one terrain
pub table_at : (terrain : Terrain) (x y : ℕ) → x < terrain.width → y < terrain.height → height_at terrain (pos x) (pos y) ≡ get_or terrain.table (y * terrain.width + x) (pos 0)
unfolding height_at
table_at terrain x y h v =
    both (ltb x terrain.width) (ltb y terrain.height) (get_or terrain.table (y * terrain.width + x) (pos 0)) (pos 0) (grind (arith, nat_tests)) (grind (arith, nat_tests))

cell_of_table : (terrain : Terrain) (k : ℕ) → 1 ≤ terrain.width → k < terrain.width * terrain.height → height_at terrain (pos (k % terrain.width)) (pos (k / terrain.width)) ≡ get_or terrain.table k (pos 0)
cell_of_table terrain k some h =
    let w = terrain.width in
    let column : k % w < w = mod_below k w (omega arith) in
    let turned : k < terrain.height * w = omega arith in
    let row : k / w < terrain.height = div_below k w terrain.height (omega arith) turned in
    let place : k / w * w + k % w ≡ k = omega arith in
    table_at terrain (k % w) (k / w) column row ∙ ap (λ (n : ℕ). get_or terrain.table n (pos 0)) place

same_terrain : (a b : Terrain) → a.width ≡ b.width → a.height ≡ b.height → a.table ≡ b.table → a ≡ b
same_terrain a b w h t = λ i. record { width = w i; height = h i; table = t i }

terrain_same : (a b : Terrain) → IsTerrain a → IsTerrain b → a.width ≡ b.width → a.height ≡ b.height → ((x y : ℤ) → height_at a x y ≡ height_at b x y) → a ≡ b
terrain_same a b p q w h same =
    let sizes : a.width * a.height ≡ b.width * b.height = ap₂ (λ (m n : ℕ). m * n) w h in
    let whole = p.whole_table in
    let other = q.whole_table in
    same_terrain a b w h
    (ext_get_or (pos 0) a.table b.table (omega arith) (λ k l.
    let inside : k < a.width * a.height = omega arith in
    let there : k < b.width * b.height = omega arith in
    sym (cell_of_table a k p.some_columns inside)
    ∙ same (pos (k % a.width)) (pos (k / a.width))
    ∙ ap (λ (n : ℕ). height_at b (pos (k % n)) (pos (k / n))) w
    ∙ cell_of_table b k q.some_columns there))

pub one_terrain_is : FinestLevel → OneList → (head other : Head) (terrain second : Terrain) (bytes : List ℕ) → IsStore head terrain bytes → IsStore other second bytes → (head ≡ other) × (terrain ≡ second)
one_terrain_is finest one head other terrain second bytes a b =
    let heads = same_store_heads head other terrain second bytes a b in
    let moved : IsFront head (level_height second) head.levels bytes = subst (λ (h : Head). IsFront h (level_height second) h.levels bytes) (sym heads) b.whole in
    let some = a.sound.some_levels in
    let agree = front_apart one head (level_height terrain) (level_height second) head.levels bytes bytes [] [] (omega arith) a.whole moved refl in
    let here : level_height terrain 0 ≡ level_height second 0 = agree.0 0 (omega arith) (omega arith) in
    let width : terrain.width ≡ second.width = sym a.same_width ∙ ap (λ (h : Head). h.width) heads ∙ b.same_width in
    let height : terrain.height ≡ second.height = sym a.same_height ∙ ap (λ (h : Head). h.height) heads ∙ b.same_height in
    (heads, terrain_same terrain second a.sound_terrain b.sound_terrain width height (λ x y. sym (finest terrain x y) ∙ ap (λ (f : ℤ → ℤ → ℤ). f x y) here ∙ finest second x y))

-- ---- a coarser level takes the heights at even places
even_value : EvenPrediction → (coarser : ℤ → ℤ → ℤ) (step : ℕ) (a b code : ℤ) → code ≡ pos 0 → value_of coarser step (pos 2 *ℤ a) (pos 2 *ℤ b) code ≡ coarser a b
unfolding value_of
even_value even coarser step a b code e =
    let none : pos step *ℤ code ≡ pos 0 = ap (λ (z : ℤ). pos step *ℤ z) e ∙ omega (arith, ints) in
    let p = even coarser a b in
    omega (arith, ints)

word_cell : EvenPrediction → BroughtSame → (coarser heights : ℤ → ℤ → ℤ) (step : ℕ) (head : Head) (level k : ℕ) (bytes : List ℕ) (a b : ℤ) → FitsSigned w16 (coarser a b) → IsWordBlock coarser heights step (region_of head level k) bytes → contains (region_of head level k) (pos 2 *ℤ a) (pos 2 *ℤ b) ≡ true → heights (pos 2 *ℤ a) (pos 2 *ℤ b) ≡ coarser a b
word_cell even brought_same coarser heights step head level k bytes a b fits x inside =
    x.restored (pos 2 *ℤ a) (pos 2 *ℤ b) inside
    ∙ ap brought (even_value even coarser step a b (x.code (pos 2 *ℤ a) (pos 2 *ℤ b)) (x.coding.even (pos 2 *ℤ a) (pos 2 *ℤ b) (not_coded a b)))
    ∙ brought_same (coarser a b) fits

even_cell : EvenPrediction → BroughtSame → (head : Head) (heights : Levels) (level : ℕ) (bytes : List ℕ) (a b : ℤ) → level + 1 < head.levels → IsFront head heights head.levels bytes → heights (level + 1) a b ≡ heights level (pos 2 *ℤ a) (pos 2 *ℤ b)
even_cell even brought_same head heights level bytes a b less front =
    let fine = (front_split head heights level head.levels bytes (omega arith) (omega arith) (omega arith) front).whole in
    let coarse = (front_split head heights (level + 1) head.levels bytes less (omega arith) (omega arith) front).whole in
    let i = pos 2 *ℤ a in
    let j = pos 2 *ℤ b in
    ⊎_elim
    (λ (inside : contains (level_region head.width head.height level) i j ≡ true).
    let at = in_block head.width head.height level i j inside in
    let no_top : eqb (level + 1) head.levels ≡ false = grind (arith, nat_tests) in
    sym (word_cell even brought_same (heights (level + 1)) (heights level) head.step head level at.k (fine.all.content at.k) a b (coarse.short a b)
    (subst (λ (t : Bool). IsBlockOf t head heights level at.k (fine.all.content at.k)) no_top (fine.all.blocks at.k at.below)) at.inside))
    (λ (out : contains (level_region head.width head.height level) i j ≡ false).
    let far : contains (level_region head.width head.height (level + 1)) a b ≡ false =
    ⊎_elim
    (λ (t : contains (level_region head.width head.height (level + 1)) a b ≡ true). absurd (false≢true (sym out ∙ region_doubled head.width head.height level a b t)))
    (λ (t : contains (level_region head.width head.height (level + 1)) a b ≡ false). t)
    (cases_Bool (contains (level_region head.width head.height (level + 1)) a b)) in
    coarse.outside a b far ∙ sym (fine.outside i j out))
    (cases_Bool (contains (level_region head.width head.height level) i j))

levels_are : FinestLevel → CoarserLevel → EvenPrediction → BroughtSame → (head : Head) (heights : Levels) (terrain : Terrain) (bytes : List ℕ) → ((i j : ℤ) → heights 0 i j ≡ height_at terrain i j) → IsFront head heights head.levels bytes → (level : ℕ) → level < head.levels → (i j : ℤ) → heights level i j ≡ level_height terrain level i j
levels_are finest coarser even brought_same head heights terrain bytes same front zero less i j = same i j ∙ sym (finest terrain i j)
levels_are finest coarser even brought_same head heights terrain bytes same front (suc level) less i j =
    let next : level + 1 ≡ suc level = omega arith in
    ap (λ (l : ℕ). heights l i j) (sym next)
    ∙ even_cell even brought_same head heights level bytes i j (omega arith) front
    ∙ levels_are finest coarser even brought_same head heights terrain bytes same front level (omega arith) (pos 2 *ℤ i) (pos 2 *ℤ j)
    ∙ coarser terrain level i j
    ∙ ap (λ (l : ℕ). level_height terrain l i j) next

pub store_of_levels : FinestLevel → CoarserLevel → EvenPrediction → BroughtSame → (head : Head) (heights : Levels) (terrain : Terrain) (bytes : List ℕ) → IsSoundHead head → IsTerrain terrain → head.width ≡ terrain.width → head.height ≡ terrain.height → ((i j : ℤ) → heights 0 i j ≡ height_at terrain i j) → IsFront head heights head.levels bytes → IsStore head terrain bytes
store_of_levels finest coarser even brought_same head heights terrain bytes sound sound_terrain width height same front = record {
  sound = sound;
  sound_terrain = sound_terrain;
  same_width = width;
  same_height = height;
  whole = front_like head heights (level_height terrain) head.levels bytes (omega arith) (λ m l h i j. levels_are finest coarser even brought_same head heights terrain bytes same front m h i j) front;
}
