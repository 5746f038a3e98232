-- How near restored heights are.
use Rattle.std.proofs.Common.{◌≡◌, Bool, true, false, ◌&&◌, cond, eqb, not, ℕ, zero, suc, ◌+◌, ◌-◌, ◌<◌, ℤ, pos, negsuc, ◌*ℤ◌, refl, ap, sym, ◌∙◌, subst, ⊎_elim, arith}
use Rattle.std.proofs.lemmas.Int.{ints}
use Rattle.std.proofs.lemmas.Bool.{cases_Bool, and_parts, false≢true}
use Rattle.std.proofs.lemmas.Bool.Decides.{nat_tests}
use mathlib.Core.Path.{ap₂}
use Rattle.clip_regions.specs.Regions.{contains}
use Rattle.clip_regions.specs.FloorDivision.{floor_div, floor_rem}
use Rattle.terrain_model.specs.Terrain.{Terrain, IsTerrain, level_height}
use Rattle.terrain_model.specs.Laws.{CoarserLevel}
use Rattle.four_point.specs.Steps.{IsStep, code_of, value_of, brought}
use Rattle.four_point.specs.Laws.{IsWithinHalf, ValueWithinHalf, BroughtWithinHalf}
use Rattle.store_model.specs.Sizes.{level_region}
use Rattle.store_model.specs.Blocks.{is_coded}
use Rattle.store_model.specs.Restored.{restored_cell, restored_after, restored_height}
use Rattle.store_model.proofs.Outside.{level_outside, level_fits}

pub itself : (step : ℕ) (h : ℤ) → IsWithinHalf step h h
itself step h = record { low = omega (arith, ints); high = omega (arith, ints) }

even_twice : (z : ℤ) → floor_rem z 2 ≡ 0 → z ≡ pos 2 *ℤ floor_div z 2
unfolding floor_rem floor_div
even_twice (pos n) e = omega (arith, ints)
even_twice (negsuc n) e = omega (arith, ints)

not_true : (t : Bool) → not t ≡ false → t ≡ true
not_true true e = refl
not_true false e = absurd (false≢true (sym e))

tested : (n : ℕ) → eqb n 0 ≡ true → n ≡ 0
tested n e = grind (arith, nat_tests)

pub both_even : (i j : ℤ) → is_coded i j ≡ false → (i ≡ pos 2 *ℤ floor_div i 2) × (j ≡ pos 2 *ℤ floor_div j 2)
unfolding is_coded
both_even i j e =
    let parts = and_parts (eqb (floor_rem i 2) 0) (eqb (floor_rem j 2) 0) (not_true (eqb (floor_rem i 2) 0 && eqb (floor_rem j 2) 0) e) in
    (even_twice i (tested (floor_rem i 2) parts.0), even_twice j (tested (floor_rem j 2) parts.1))

-- a cell that the coarser level has too has its height there
pub even_height : CoarserLevel → (terrain : Terrain) (level : ℕ) (i j : ℤ) → is_coded i j ≡ false → level_height terrain level i j ≡ level_height terrain (level + 1) (floor_div i 2) (floor_div j 2)
even_height coarser terrain level i j e =
    let even = both_even i j e in
    ap₂ (level_height terrain level) even.0 even.1 ∙ coarser terrain level (floor_div i 2) (floor_div j 2)

pub cell_within : ValueWithinHalf → BroughtWithinHalf → (terrain : Terrain) (level step : ℕ) (coarser : ℤ → ℤ → ℤ) (i j : ℤ) → IsTerrain terrain → IsStep step → (is_coded i j ≡ false → IsWithinHalf step (level_height terrain level i j) (coarser (floor_div i 2) (floor_div j 2))) → IsWithinHalf step (level_height terrain level i j) (restored_cell coarser step i j (level_height terrain level i j))
unfolding restored_cell
cell_within value near terrain level step coarser i j sound s even =
    let h = level_height terrain level i j in
    let v = value_of coarser step i j (code_of coarser step i j h) in
    ⊎_elim
    (λ (e : is_coded i j ≡ true).
    subst (λ (t : Bool). IsWithinHalf step h (cond t (brought v) (coarser (floor_div i 2) (floor_div j 2)))) (sym e) (near step h v (level_fits terrain level i j sound) (value coarser step i j h s)))
    (λ (e : is_coded i j ≡ false).
    subst (λ (t : Bool). IsWithinHalf step h (cond t (brought v) (coarser (floor_div i 2) (floor_div j 2)))) (sym e) (even e))
    (cases_Bool (is_coded i j))

pub after_within : CoarserLevel → ValueWithinHalf → BroughtWithinHalf → (terrain : Terrain) (levels step n : ℕ) → IsTerrain terrain → IsStep step → n < levels → (i j : ℤ) → IsWithinHalf step (level_height terrain (levels - suc n) i j) (restored_after terrain levels step n i j)
unfolding restored_after
after_within coarser value near terrain levels step zero sound s below i j = itself step (level_height terrain (levels - 1) i j)
after_within coarser value near terrain levels step (suc n) sound s below i j =
    let level = levels - suc (suc n) in
    let C = restored_after terrain levels step n in
    let h = level_height terrain level i j in
    let cell = restored_cell C step i j h in
    let next : level + 1 ≡ levels - suc n = omega arith in
    let before : (a b : ℤ) → IsWithinHalf step (level_height terrain (levels - suc n) a b) (C a b) = after_within coarser value near terrain levels step n sound s (omega arith) in
    let inside = contains (level_region terrain.width terrain.height level) i j in
    ⊎_elim
    (λ (e : inside ≡ true).
    subst (λ (t : Bool). IsWithinHalf step h (cond t cell (pos 0))) (sym e)
    (cell_within value near terrain level step C i j sound s
    (λ even.
    let same : h ≡ level_height terrain (levels - suc n) (floor_div i 2) (floor_div j 2) =
    even_height coarser terrain level i j even ∙ ap (λ (l : ℕ). level_height terrain l (floor_div i 2) (floor_div j 2)) next in
    subst (λ (z : ℤ). IsWithinHalf step z (C (floor_div i 2) (floor_div j 2))) (sym same) (before (floor_div i 2) (floor_div j 2)))))
    (λ (e : inside ≡ false).
    subst (λ (t : Bool). IsWithinHalf step h (cond t cell (pos 0))) (sym e)
    (subst (λ (z : ℤ). IsWithinHalf step h z) (level_outside terrain level i j sound e) (itself step h)))
    (cases_Bool inside)

pub restored_within : CoarserLevel → ValueWithinHalf → BroughtWithinHalf → (terrain : Terrain) (levels step level : ℕ) (i j : ℤ) → IsTerrain terrain → IsStep step → level < levels → IsWithinHalf step (level_height terrain level i j) (restored_height terrain levels step level i j)
restored_within coarser value near terrain levels step level i j sound s below =
    let back : levels - suc (levels - suc level) ≡ level = omega arith in
    subst (λ (l : ℕ). IsWithinHalf step (level_height terrain l i j) (restored_height terrain levels step level i j)) back
    (after_within coarser value near terrain levels step (levels - suc level) sound s (omega arith) i j)

pub restored_by_one : CoarserLevel → ValueWithinHalf → BroughtWithinHalf → (terrain : Terrain) (levels level : ℕ) (i j : ℤ) → IsTerrain terrain → level < levels → restored_height terrain levels 1 level i j ≡ level_height terrain level i j
restored_by_one coarser value near terrain levels level i j sound below =
    let one : IsStep 1 = record { odd = refl; high = omega arith } in
    let h = restored_within coarser value near terrain levels 1 level i j sound one below in
    let l = h.low in
    let u = h.high in
    omega (arith, ints)
