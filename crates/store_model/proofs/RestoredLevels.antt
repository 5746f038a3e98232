-- The levels of a restored terrain are the restored levels.
use Rattle.std.proofs.Common.{◌≡◌, Bool, true, false, ◌&&◌, cond, ltb, ℕ, zero, suc, ◌+◌, ◌-◌, ◌*◌, ◌/◌, ◌%◌, ◌^◌, ◌<◌, ◌≤◌, ℤ, pos, negsuc, ◌*ℤ◌, ◌≤ℤ◌, ◌<ℤ◌, map, length, get_or, FitsSigned, refl, ap, sym, ◌∙◌, subst, ⊎_elim, arith}
use Rattle.std.specs.Int.{w16}
use Rattle.std.specs.List.{range_with_len}
use Rattle.std.proofs.lemmas.Int.{ints}
use Rattle.std.proofs.lemmas.Nat.{mul-add-lt, mod-mul-add, div-mul-add, shr-shr}
use Rattle.std.proofs.lemmas.Bool.{cases_Bool, and_parts, and_from, false≢true}
use Rattle.std.proofs.lemmas.Bool.Decides.{nat_tests}
use Rattle.std.proofs.lemmas.List.FromFn.{get_or-map-range_with_len, length-map-range_with_len}
use lib.Signed.{le_z}
use mathlib.Core.Path.{ap₂}
use Rattle.clip_regions.specs.Regions.{contains}
use Rattle.clip_regions.specs.FloorDivision.{floor_div}
use Rattle.terrain_model.specs.Terrain.{Terrain, IsTerrain, height_at, level_height}
use Rattle.terrain_model.specs.Laws.{FinestLevel, CoarserLevel}
use Rattle.four_point.specs.Steps.{code_of, value_of, brought}
use Rattle.four_point.specs.Laws.{BroughtFits}
use Rattle.store_model.specs.Sizes.{cells_on, level_region}
use Rattle.store_model.specs.Blocks.{is_coded}
use Rattle.store_model.specs.Restored.{restored_cell, restored_after, restored_height, restored_terrain}
use Rattle.store_model.proofs.Outside.{level_outside}
use Rattle.store_model.proofs.Canonical.{after_fits}
use Rattle.clip_regions.proofs.Cells.{tested_le, le_tested}
use Rattle.four_point.proofs.LawLemmas.{even_rem, even_div}

pub restored_is_terrain : BroughtFits → (terrain : Terrain) (levels step : ℕ) → IsTerrain terrain → IsTerrain (restored_terrain terrain levels step)
unfolding restored_terrain
restored_is_terrain fits terrain levels step sound =
    let w = terrain.width in
    let h = terrain.height in
    let f = λ (n : ℕ). restored_height terrain levels step 0 (pos (n % w)) (pos (n / w)) in
    record {
      some_columns = sound.some_columns;
      some_rows = sound.some_rows;
      few_samples = sound.few_samples;
      whole_table = length-map-range_with_len f 0 (w * h);
      short_heights = λ k d in_table.
          let n : length (map f (range_with_len 0 (w * h))) ≡ w * h = length-map-range_with_len f 0 (w * h) in
          subst (FitsSigned w16) (sym (get_or-map-range_with_len f 0 (w * h) k k d (omega arith) (omega arith)))
          (after_fits fits terrain levels step (levels - suc 0) sound (pos (k % w)) (pos (k / w)));
    }

restored_outside : (terrain : Terrain) (levels step n : ℕ) → IsTerrain terrain → (i j : ℤ) → contains (level_region terrain.width terrain.height (levels - suc n)) i j ≡ false → restored_after terrain levels step n i j ≡ pos 0
unfolding restored_after
restored_outside terrain levels step zero sound i j e = level_outside terrain (levels - 1) i j sound e
restored_outside terrain levels step (suc n) sound i j e =
    ap (λ (t : Bool). cond t (restored_cell (restored_after terrain levels step n) step i j (level_height terrain (levels - suc (suc n)) i j)) (pos 0)) e

-- ---- level 0
cells_at_0 : (side : ℕ) → 1 ≤ side → cells_on side 0 ≡ side
unfolding cells_on
cells_at_0 side h = omega arith

inside_0 : (width height : ℕ) (x y : ℤ) → 1 ≤ width → 1 ≤ height → contains (level_region width height 0) x y ≡ true → (pos 0 ≤ℤ x) × (x <ℤ pos width) × (pos 0 ≤ℤ y) × (y <ℤ pos height)
unfolding contains level_region
inside_0 width height x y w h e =
    let cw = cells_at_0 width w in
    let ch = cells_at_0 height h in
    let parts = and_parts (le_z (pos 0) x && le_z x (pos (cells_on width 0 - 1))) (le_z (pos 0) y && le_z y (pos (cells_on height 0 - 1))) e in
    let across = and_parts (le_z (pos 0) x) (le_z x (pos (cells_on width 0 - 1))) parts.0 in
    let down = and_parts (le_z (pos 0) y) (le_z y (pos (cells_on height 0 - 1))) parts.1 in
    let a = tested_le (pos 0) x across.0 in
    let b = tested_le x (pos (cells_on width 0 - 1)) across.1 in
    let c = tested_le (pos 0) y down.0 in
    let d = tested_le y (pos (cells_on height 0 - 1)) down.1 in
    (a, omega (arith, ints), c, omega (arith, ints))

pub both : (a b : Bool) (x y : ℤ) → a ≡ true → b ≡ true → cond (a && b) x y ≡ x
both a b x y e f = rw (e, f) refl

table_at : (terrain : Terrain) (levels step : ℕ) (x y : ℤ) → pos 0 ≤ℤ x → x <ℤ pos terrain.width → pos 0 ≤ℤ y → y <ℤ pos terrain.height → height_at (restored_terrain terrain levels step) x y ≡ restored_height terrain levels step 0 x y
unfolding height_at restored_terrain
table_at terrain levels step (pos x) (pos y) a b c d =
    let w = terrain.width in
    let h = terrain.height in
    let f = λ (n : ℕ). restored_height terrain levels step 0 (pos (n % w)) (pos (n / w)) in
    let x_in : x < w = omega (arith, ints) in
    let y_in : y < h = omega (arith, ints) in
    both (ltb x w) (ltb y h) (get_or (map f (range_with_len 0 (w * h))) (y * w + x) (pos 0)) (pos 0) (grind (arith, nat_tests)) (grind (arith, nat_tests))
    ∙ get_or-map-range_with_len f 0 (w * h) (y * w + x) (y * w + x) (pos 0) (mul-add-lt y w x h y_in x_in) (omega arith)
    ∙ ap₂ (λ (u v : ℕ). restored_height terrain levels step 0 (pos u) (pos v)) (mod-mul-add y w x x_in) (div-mul-add y w x x_in)
table_at terrain levels step (pos x) (negsuc y) a b c d = absurd (omega (arith, ints))
table_at terrain levels step (negsuc x) y a b c d = absurd (omega (arith, ints))

none_outside : BroughtFits → (t : Terrain) (l s : ℕ) → IsTerrain t → (a b : ℤ) → contains (level_region t.width t.height 0) a b ≡ false → level_height (restored_terrain t l s) 0 a b ≡ pos 0
unfolding restored_terrain
none_outside f t l s good a b h = level_outside (restored_terrain t l s) 0 a b (restored_is_terrain f t l s good) h

restored_finest : FinestLevel → BroughtFits → (terrain : Terrain) (levels step : ℕ) → IsTerrain terrain → 0 < levels → (x y : ℤ) → height_at (restored_terrain terrain levels step) x y ≡ restored_height terrain levels step 0 x y
restored_finest finest fits terrain levels step sound some x y =
    let R = restored_terrain terrain levels step in
    ⊎_elim
    (λ (e : contains (level_region terrain.width terrain.height 0) x y ≡ true).
    let p = inside_0 terrain.width terrain.height x y sound.some_columns sound.some_rows e in
    table_at terrain levels step x y p.0 p.1 p.2 p.3)
    (λ (e : contains (level_region terrain.width terrain.height 0) x y ≡ false).
    let back : levels - suc (levels - suc 0) ≡ 0 = omega arith in
    let at : contains (level_region terrain.width terrain.height (levels - suc (levels - suc 0))) x y ≡ false = ap (λ (l : ℕ). contains (level_region terrain.width terrain.height l) x y) back ∙ e in
    sym (finest R x y)
    ∙ none_outside fits terrain levels step sound x y e
    ∙ sym (restored_outside terrain levels step (levels - suc 0) sound x y at))
    (cases_Bool (contains (level_region terrain.width terrain.height 0) x y))

-- ---- one level coarser
doubled_negative : (n : ℕ) → pos 2 *ℤ negsuc n ≡ negsuc (2 * n + 1)
doubled_negative n = omega (arith, ints)

pub not_coded : (a b : ℤ) → is_coded (pos 2 *ℤ a) (pos 2 *ℤ b) ≡ false
unfolding is_coded
not_coded a b = rw (even_rem a, even_rem b) refl

side_doubled : (side level : ℕ) (z : ℤ) → (le_z (pos 0) z && le_z z (pos (cells_on side (level + 1) - 1))) ≡ true → (le_z (pos 0) (pos 2 *ℤ z) && le_z (pos 2 *ℤ z) (pos (cells_on side level - 1))) ≡ true
unfolding cells_on
side_doubled side level z e =
    let half : (side - 1) / 2 ^ level / 2 ^ 1 ≡ (side - 1) / 2 ^ (level + 1) = shr-shr (side - 1) level 1 in
    let parts = and_parts (le_z (pos 0) z) (le_z z (pos ((side - 1) / 2 ^ (level + 1) + 1 - 1))) e in
    let l = tested_le (pos 0) z parts.0 in
    let h = tested_le z (pos ((side - 1) / 2 ^ (level + 1) + 1 - 1)) parts.1 in
    let q = (side - 1) / 2 ^ level in
    let q_half : 2 * (q / 2) ≤ q = omega arith in
    and_from (le_z (pos 0) (pos 2 *ℤ z)) (le_z (pos 2 *ℤ z) (pos (q + 1 - 1))) (le_tested (pos 0) (pos 2 *ℤ z) (omega (arith, ints))) (le_tested (pos 2 *ℤ z) (pos (q + 1 - 1)) (omega (arith, ints)))

pub region_doubled : (width height level : ℕ) (a b : ℤ) → contains (level_region width height (level + 1)) a b ≡ true → contains (level_region width height level) (pos 2 *ℤ a) (pos 2 *ℤ b) ≡ true
unfolding contains level_region
region_doubled width height level a b e =
    let parts = and_parts (le_z (pos 0) a && le_z a (pos (cells_on width (level + 1) - 1))) (le_z (pos 0) b && le_z b (pos (cells_on height (level + 1) - 1))) e in
    and_from (le_z (pos 0) (pos 2 *ℤ a) && le_z (pos 2 *ℤ a) (pos (cells_on width level - 1))) (le_z (pos 0) (pos 2 *ℤ b) && le_z (pos 2 *ℤ b) (pos (cells_on height level - 1)))
    (side_doubled width level a parts.0) (side_doubled height level b parts.1)

restored_doubled : (terrain : Terrain) (levels step level : ℕ) (a b : ℤ) → IsTerrain terrain → level + 1 < levels → restored_height terrain levels step level (pos 2 *ℤ a) (pos 2 *ℤ b) ≡ restored_height terrain levels step (level + 1) a b
unfolding restored_after restored_cell
restored_doubled terrain levels step level a b sound below =
    let n = levels - suc (level + 1) in
    let C = restored_height terrain levels step (level + 1) in
    let i = pos 2 *ℤ a in
    let j = pos 2 *ℤ b in
    let h = level_height terrain level i j in
    let n_is : levels - suc level ≡ suc n = omega arith in
    let level_is : levels - suc (suc n) ≡ level = omega arith in
    let next_is : levels - suc n ≡ level + 1 = omega arith in
    let inside = contains (level_region terrain.width terrain.height level) i j in
    let cell : restored_cell C step i j h ≡ C a b =
    ap (λ (t : Bool). cond t (brought (value_of C step i j (code_of C step i j h))) (C (floor_div i 2) (floor_div j 2))) (not_coded a b)
    ∙ ap₂ C (even_div a) (even_div b) in
    let opened : restored_height terrain levels step level i j ≡ cond inside (restored_cell C step i j h) (pos 0) =
    ap (λ (m : ℕ). restored_after terrain levels step m i j) n_is
    ∙ ap (λ (l : ℕ). cond (contains (level_region terrain.width terrain.height l) i j) (restored_cell C step i j (level_height terrain l i j)) (pos 0)) level_is in
    ⊎_elim
    (λ (e : inside ≡ true). opened ∙ ap (λ (t : Bool). cond t (restored_cell C step i j h) (pos 0)) e ∙ cell)
    (λ (e : inside ≡ false).
    let far : contains (level_region terrain.width terrain.height (level + 1)) a b ≡ false =
    ⊎_elim
    (λ (t : contains (level_region terrain.width terrain.height (level + 1)) a b ≡ true). absurd (false≢true (sym e ∙ region_doubled terrain.width terrain.height level a b t)))
    (λ (t : contains (level_region terrain.width terrain.height (level + 1)) a b ≡ false). t)
    (cases_Bool (contains (level_region terrain.width terrain.height (level + 1)) a b)) in
    let at : contains (level_region terrain.width terrain.height (levels - suc n)) a b ≡ false = ap (λ (l : ℕ). contains (level_region terrain.width terrain.height l) a b) next_is ∙ far in
    opened ∙ ap (λ (t : Bool). cond t (restored_cell C step i j h) (pos 0)) e ∙ sym (restored_outside terrain levels step n sound a b at))
    (cases_Bool inside)

pub restored_levels : FinestLevel → CoarserLevel → BroughtFits → (terrain : Terrain) (levels step level : ℕ) (i j : ℤ) → IsTerrain terrain → level < levels → level_height (restored_terrain terrain levels step) level i j ≡ restored_height terrain levels step level i j
restored_levels finest coarser fits terrain levels step zero i j sound below =
    finest (restored_terrain terrain levels step) i j ∙ restored_finest finest fits terrain levels step sound below i j
restored_levels finest coarser fits terrain levels step (suc level) i j sound below =
    let next : level + 1 ≡ suc level = omega arith in
    let before : level < levels = omega arith in
    let less : level + 1 < levels = omega arith in
    ap (λ (l : ℕ). level_height (restored_terrain terrain levels step) l i j) (sym next)
    ∙ sym (coarser (restored_terrain terrain levels step) level i j)
    ∙ restored_levels finest coarser fits terrain levels step level (pos 2 *ℤ i) (pos 2 *ℤ j) sound before
    ∙ restored_doubled terrain levels step level i j sound less
    ∙ ap (λ (l : ℕ). restored_height terrain levels step l i j) next
