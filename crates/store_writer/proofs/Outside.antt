-- Which cells of a level lie in the terrain.
use Rattle.std.proofs.Common.{◌≡◌, ◌⊎◌, Bool, true, false, ℕ, ◌-◌, ◌*◌, ◌/◌, ◌^◌, ◌<◌, ◌≤◌, ℤ, pos, negsuc, ◌≤ℤ◌, ◌<ℤ◌, refl, sym, ◌∙◌, subst, ⊎_elim, arith}
use Rattle.std.specs.Int.{w32}
use Rattle.std.proofs.lemmas.Int.{ints, to_z-of_z}
use Rattle.std.proofs.lemmas.Nat.{pow_pos}
use Rattle.std.proofs.Math.Nat.{mul-le-mul}
use mir.Val.{SFits, to_z, of_z}
use Rattle.clip_regions.specs.declared.region.Region.{Region}
use Rattle.clip_regions.specs.Regions.{contains}
use Rattle.terrain_model.specs.Terrain.{Terrain, IsTerrain, level_columns, level_rows}
use Rattle.height_pyramid.specs.Reach.{IsInReach}
use Rattle.store_model.specs.Sizes.{cells_on, level_region}
use Rattle.store_writer.proofs.Blocks.{columns_are, rows_are, width_small, height_small}
use Rattle.clip_regions.proofs.Cells.{lies, Lies}

not_true : (b : Bool) → (b ≡ true → ⊥) → b ≡ false
not_true true h = absurd (h refl)
not_true false h = refl

pub not_lying : (r : Region) (i j : ℤ) → (Lies r i j → ⊥) → contains r i j ≡ false
not_lying r i j h = not_true (contains r i j) (λ e. h (lies r i j e))

-- a column before the first or past the last
pub out_of_columns : (terrain : Terrain) (level columns : ℕ) (i j : ℤ) → columns ≡ level_columns terrain level → (i <ℤ pos 0) ⊎ (pos columns ≤ℤ i) → contains (level_region terrain.width terrain.height level) i j ≡ false
unfolding level_region cells_on
out_of_columns terrain level columns i j e out =
    let is = e ∙ columns_are terrain level in
    not_lying (level_region terrain.width terrain.height level) i j
    (λ h.
    let w = h.west in
    let x = h.east in
    ⊎_elim (λ (o : i <ℤ pos 0). absurd (omega (arith, ints))) (λ (o : pos columns ≤ℤ i). absurd (omega (arith, ints))) out)

pub out_of_rows : (terrain : Terrain) (level rows : ℕ) (i j : ℤ) → rows ≡ level_rows terrain level → (j <ℤ pos 0) ⊎ (pos rows ≤ℤ j) → contains (level_region terrain.width terrain.height level) i j ≡ false
unfolding level_region cells_on
out_of_rows terrain level rows i j e out =
    let is = e ∙ rows_are terrain level in
    not_lying (level_region terrain.width terrain.height level) i j
    (λ h.
    let n = h.north in
    let s = h.south in
    ⊎_elim (λ (o : j <ℤ pos 0). absurd (omega (arith, ints))) (λ (o : pos rows ≤ℤ j). absurd (omega (arith, ints))) out)

-- a cell on a side can be asked for
side_reach : (side level n : ℕ) → 1 ≤ side → side ≤ 2 ^ 26 → n < cells_on side level → n * 2 ^ level ≤ 2 ^ 26
unfolding cells_on
side_reach side level n some few h =
    let unit = pow_pos level in
    let below : n ≤ (side - 1) / 2 ^ level = omega arith in
    let more : n * 2 ^ level ≤ (side - 1) / 2 ^ level * 2 ^ level = mul-le-mul below (le_self (2 ^ level)) in
    omega arith
  where
    le_self : (n : ℕ) → n ≤ n
    le_self n = omega arith

in_reach : (side level : ℕ) (i : ℤ) → 1 ≤ side → side ≤ 2 ^ 26 → pos 0 ≤ℤ i → i <ℤ pos (cells_on side level) → IsInReach level i
in_reach side level (pos n) some few low high =
    let h : n * 2 ^ level ≤ 2 ^ 26 = side_reach side level n some few (omega (arith, ints)) in
    record { low = omega (arith, ints); high = omega (arith, ints) }
in_reach side level (negsuc n) some few low high = absurd (omega (arith, ints))

pub column_reach : (terrain : Terrain) (level columns : ℕ) (i : ℤ) → IsTerrain terrain → columns ≡ level_columns terrain level → SFits w32 i → pos 0 ≤ℤ i → i <ℤ pos columns → IsInReach level (to_z w32 (of_z w32 i))
column_reach terrain level columns i sound e fits low high =
    subst (IsInReach level) (sym (to_z-of_z w32 i fits))
    (in_reach terrain.width level i sound.some_columns (width_small terrain sound) low (subst (λ (n : ℕ). i <ℤ pos n) (e ∙ columns_are terrain level) high))

pub row_reach : (terrain : Terrain) (level rows : ℕ) (i : ℤ) → IsTerrain terrain → rows ≡ level_rows terrain level → SFits w32 i → pos 0 ≤ℤ i → i <ℤ pos rows → IsInReach level (to_z w32 (of_z w32 i))
row_reach terrain level rows i sound e fits low high =
    subst (IsInReach level) (sym (to_z-of_z w32 i fits))
    (in_reach terrain.height level i sound.some_rows (height_small terrain sound) low (subst (λ (n : ℕ). i <ℤ pos n) (e ∙ rows_are terrain level) high))
