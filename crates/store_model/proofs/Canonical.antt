-- A canonical block stands for the restored heights.
use Rattle.std.proofs.Common.{◌≡◌, Bool, true, false, ◌&&◌, cond, eqb, min, ℕ, zero, suc, ◌+◌, ◌-◌, ◌*◌, ◌^◌, ◌<◌, ◌≤◌, ℤ, pos, ◌*ℤ◌, unsigned_abs, List, [], ◌∷◌, map, filter, All, FitsSigned, refl, ap, sym, ◌∙◌, subst, ⊎_elim, arith}
use Rattle.std.specs.Int.{w16}
use Rattle.std.specs.List.{flat_map}
use Rattle.std.proofs.lemmas.Int.{ints}
use Rattle.std.proofs.lemmas.Bool.{cases_Bool, and_parts, and_from}
use Rattle.std.proofs.lemmas.Bool.Decides.{nat_tests}
use Rattle.std.proofs.lemmas.List.Elements.{All-append}
use lib.Signed.{le_z}
use mathlib.Core.Path.{ap₂}
use Rattle.clip_regions.specs.declared.region.Region.{Region}
use Rattle.clip_regions.specs.Regions.{contains, columns, rows, numbers_from}
use Rattle.clip_regions.specs.FloorDivision.{floor_div}
use Rattle.terrain_model.specs.Terrain.{Terrain, IsTerrain, level_height}
use Rattle.four_point.specs.Prediction.{prediction}
use Rattle.four_point.specs.Steps.{IsStep, IsNear, code_of, value_of, brought}
use Rattle.four_point.specs.Laws.{EvenPrediction, ValueWithinHalf, WithinHalfIsNear, BroughtFits, BroughtSame, CodeSize}
use Rattle.rice_residuals.specs.Code.{IsResidual}
use Rattle.rice_residuals.specs.Word.{IsBlockWord, IsWordOf, best_parameter, canonical_word}
use Rattle.store_model.specs.Sizes.{cells_on, level_region, cells_in_block, block_region, block_column, block_row}
use Rattle.store_model.specs.Blocks.{is_coded, coded_values, plain_bytes, IsWordBlock}
use Rattle.store_model.specs.Restored.{restored_cell, restored_after, restored_height, canonical_block}
use Rattle.store_model.proofs.Outside.{level_fits}
use Rattle.store_model.proofs.Restoring.{both_even, itself}
use Rattle.clip_regions.proofs.Cells.{tested_le, le_tested}

-- ---- values at coded cells
filtered_same : (f g : ℤ → ℤ) (p : ℤ → Bool) (xs : List ℤ) → ((x : ℤ) → p x ≡ true → f x ≡ g x) → map f (filter p xs) ≡ map g (filter p xs)
filtered_same f g p [] h = refl
filtered_same f g p (x ∷ xs) h =
    let rest = filtered_same f g p xs h in
    ⊎_elim
    (λ (e : p x ≡ true).
    subst (λ (t : Bool). map f (cond t (x ∷ filter p xs) (filter p xs)) ≡ map g (cond t (x ∷ filter p xs) (filter p xs))) (sym e) (ap₂ (λ (y : ℤ) (ys : List ℤ). y ∷ ys) (h x e) rest))
    (λ (e : p x ≡ false).
    subst (λ (t : Bool). map f (cond t (x ∷ filter p xs) (filter p xs)) ≡ map g (cond t (x ∷ filter p xs) (filter p xs))) (sym e) rest)
    (cases_Bool (p x))

pub values_same : (f g : ℤ → ℤ → ℤ) (region : Region) → ((i j : ℤ) → is_coded i j ≡ true → f i j ≡ g i j) → coded_values f region ≡ coded_values g region
unfolding coded_values
values_same f g region h =
    (λ t. flat_map (λ j. filtered_same (λ i. f i j) (λ i. g i j) (λ i. is_coded i j) (numbers_from region.x0 (columns region)) (λ i e. h i j e) t) (numbers_from region.y0 (rows region)))

all_none : (P : ℤ → Type 0) → All P []
all_none P = λ k d h. absurd (omega arith)

all_mapped : (P : ℤ → Type 0) (f : ℤ → ℤ) (xs : List ℤ) → ((x : ℤ) → P (f x)) → All P (map f xs)
all_mapped P f [] h = all_none P
all_mapped P f (x ∷ xs) h = All-append P (f x ∷ []) (map f xs) (all_one P (f x) (h x)) (all_mapped P f xs h)
  where
    all_one : (Q : ℤ → Type 0) (y : ℤ) → Q y → All Q (y ∷ [])
    all_one Q y q zero d l = q
    all_one Q y q (suc k) d l = absurd (omega arith)

all_flat : (P : ℤ → Type 0) (f : ℤ → List ℤ) (xs : List ℤ) → ((x : ℤ) → All P (f x)) → All P (flat_map f xs)
all_flat P f [] h = all_none P
all_flat P f (x ∷ xs) h = All-append P (f x) (flat_map f xs) (h x) (all_flat P f xs h)

pub values_all : (P : ℤ → Type 0) (f : ℤ → ℤ → ℤ) (region : Region) → ((i j : ℤ) → P (f i j)) → All P (coded_values f region)
unfolding coded_values
values_all P f region h =
    all_flat P (λ j. map (λ i. f i j) (filter (λ i. is_coded i j) (numbers_from region.x0 (columns region)))) (numbers_from region.y0 (rows region))
    (λ j. all_mapped P (λ i. f i j) (filter (λ i. is_coded i j) (numbers_from region.x0 (columns region))) (λ i. h i j))

-- ---- restored heights have 16 bits
chosen : (P : ℤ → Type 0) (t : Bool) (x y : ℤ) → P x → P y → P (cond t x y)
chosen P true x y p q = p
chosen P false x y p q = q

pub after_fits : BroughtFits → (terrain : Terrain) (levels step n : ℕ) → IsTerrain terrain → (i j : ℤ) → FitsSigned w16 (restored_after terrain levels step n i j)
unfolding restored_after restored_cell
after_fits fits terrain levels step zero sound i j = level_fits terrain (levels - 1) i j sound
after_fits fits terrain levels step (suc n) sound i j =
    let level = levels - suc (suc n) in
    let C = restored_after terrain levels step n in
    let h = level_height terrain level i j in
    let v = brought (value_of C step i j (code_of C step i j h)) in
    let even = C (floor_div i 2) (floor_div j 2) in
    chosen (FitsSigned w16) (contains (level_region terrain.width terrain.height level) i j) (cond (is_coded i j) v even) (pos 0)
    (chosen (FitsSigned w16) (is_coded i j) v even (fits (value_of C step i j (code_of C step i j h))) (after_fits fits terrain levels step n sound (floor_div i 2) (floor_div j 2)))
    (omega (arith, ints))

-- ---- cells of a block lie in the level
side_in : (low high cells : ℕ) (z : ℤ) → (le_z (pos low) z && le_z z (pos (min high (cells - 1)))) ≡ true → (le_z (pos 0) z && le_z z (pos (cells - 1))) ≡ true
side_in low high cells z e =
    let parts = and_parts (le_z (pos low) z) (le_z z (pos (min high (cells - 1)))) e in
    let l = tested_le (pos low) z parts.0 in
    let h = tested_le z (pos (min high (cells - 1))) parts.1 in
    let few : min high (cells - 1) ≤ cells - 1 = omega arith in
    and_from (le_z (pos 0) z) (le_z z (pos (cells - 1))) (le_tested (pos 0) z (omega (arith, ints))) (le_tested z (pos (cells - 1)) (omega (arith, ints)))

pub in_level : (width height level k : ℕ) (i j : ℤ) → contains (block_region width height level k) i j ≡ true → contains (level_region width height level) i j ≡ true
unfolding contains block_region cells_in_block level_region
in_level width height level k i j e =
    let bx = block_column width level k in
    let by = block_row width level k in
    let c = cells_on width level in
    let r = cells_on height level in
    let parts = and_parts (le_z (pos (8 * bx)) i && le_z i (pos (min (8 * bx + 7) (c - 1)))) (le_z (pos (8 * by)) j && le_z j (pos (min (8 * by + 7) (r - 1)))) e in
    and_from (le_z (pos 0) i && le_z i (pos (c - 1))) (le_z (pos 0) j && le_z j (pos (r - 1)))
    (side_in (8 * bx) (8 * bx + 7) c i parts.0) (side_in (8 * by) (8 * by + 7) r j parts.1)

-- ---- the block
even_value : EvenPrediction → (C : ℤ → ℤ → ℤ) (step : ℕ) (i j : ℤ) → is_coded i j ≡ false → value_of C step i j (pos 0) ≡ C (floor_div i 2) (floor_div j 2)
unfolding value_of
even_value even C step i j e =
    let places = both_even i j e in
    let p : prediction C i j ≡ C (floor_div i 2) (floor_div j 2) = ap₂ (prediction C) places.0 places.1 ∙ even C (floor_div i 2) (floor_div j 2) in
    let none : pos step *ℤ pos 0 ≡ pos 0 = omega (arith, ints) in
    omega (arith, ints)

code_in : (x : ℤ) → unsigned_abs x < 2 ^ 17 → IsResidual x
code_in x h = (omega (arith, ints), omega (arith, ints))

short_near : WithinHalfIsNear → (step : ℕ) (h : ℤ) → FitsSigned w16 h → IsNear step h
short_near near step h fits = near step h h fits (itself step h)

pub canonical_word_block : EvenPrediction → ValueWithinHalf → WithinHalfIsNear → BroughtFits → BroughtSame → CodeSize
    → ((xs : List ℤ) → All IsResidual xs → IsBlockWord (best_parameter xs) xs (canonical_word xs))
    → (terrain : Terrain) (levels step level k : ℕ) → IsTerrain terrain → IsStep step → level + 1 < levels
    → IsWordBlock (restored_height terrain levels step (level + 1)) (restored_height terrain levels step level) step (block_region terrain.width terrain.height level k) (canonical_block terrain levels step level k)
unfolding canonical_block restored_after restored_cell
canonical_word_block evens value near fits same size word terrain levels step level k sound s below =
    let C = restored_height terrain levels step (level + 1) in
    let h = level_height terrain level in
    let region = block_region terrain.width terrain.height level k in
    let full = λ (i j : ℤ). code_of C step i j (h i j) in
    let code = λ (i j : ℤ). cond (is_coded i j) (full i j) (pos 0) in
    let coded : (i j : ℤ) → is_coded i j ≡ true → code i j ≡ full i j = λ i j e. ap (λ (t : Bool). cond t (full i j) (pos 0)) e in
    let zero_code : (i j : ℤ) → is_coded i j ≡ false → code i j ≡ pos 0 = λ i j e. ap (λ (t : Bool). cond t (full i j) (pos 0)) e in
    let C_fits : (a b : ℤ) → FitsSigned w16 (C a b) = after_fits fits terrain levels step (levels - suc (level + 1)) sound in
    let short : All IsResidual (coded_values full region) = values_all IsResidual full region (λ i j. code_in (full i j) (size C step i j (h i j) C_fits (level_fits terrain level i j sound) s)) in
    let not_top : eqb (level + 1) levels ≡ false = grind (arith, nat_tests) in
    let bytes : canonical_block terrain levels step level k ≡ canonical_word (coded_values full region) =
    ap (λ (t : Bool). cond t (plain_bytes (level_height terrain level) region) (canonical_word (coded_values full region))) not_top in
    let of_full : IsWordOf (coded_values full region) (canonical_word (coded_values full region)) = (best_parameter (coded_values full region), word (coded_values full region) short) in
    let n_is : levels - suc level ≡ suc (levels - suc (level + 1)) = omega arith in
    let level_is : levels - suc (suc (levels - suc (level + 1))) ≡ level = omega arith in
    let even = λ (i j : ℤ). C (floor_div i 2) (floor_div j 2) in
    let n = levels - suc (level + 1) in
    let is_near : (i j : ℤ) → IsNear step (value_of C step i j (code i j)) =
    λ i j.
    ⊎_elim
    (λ (e : is_coded i j ≡ true).
    subst (λ (z : ℤ). IsNear step (value_of C step i j z)) (sym (coded i j e))
    (near step (h i j) (value_of C step i j (full i j)) (level_fits terrain level i j sound) (value C step i j (h i j) s)))
    (λ (e : is_coded i j ≡ false).
    subst (λ (z : ℤ). IsNear step (value_of C step i j z)) (sym (zero_code i j e))
    (subst (IsNear step) (sym (even_value evens C step i j e)) (short_near near step (even i j) (C_fits (floor_div i 2) (floor_div j 2)))))
    (cases_Bool (is_coded i j)) in
    let cell : (i j : ℤ) → restored_cell C step i j (h i j) ≡ brought (value_of C step i j (code i j)) =
    λ i j.
    ⊎_elim
    (λ (e : is_coded i j ≡ true).
    ap (λ (t : Bool). cond t (brought (value_of C step i j (full i j))) (even i j)) e
    ∙ ap (λ (z : ℤ). brought (value_of C step i j z)) (sym (coded i j e)))
    (λ (e : is_coded i j ≡ false).
    ap (λ (t : Bool). cond t (brought (value_of C step i j (full i j))) (even i j)) e
    ∙ sym (ap brought (ap (value_of C step i j) (zero_code i j e) ∙ even_value evens C step i j e) ∙ same (even i j) (C_fits (floor_div i 2) (floor_div j 2))))
    (cases_Bool (is_coded i j)) in
    let whole : (i j : ℤ) → contains region i j ≡ true → restored_height terrain levels step level i j ≡ brought (value_of C step i j (code i j)) =
    λ i j e.
    ap (λ (m : ℕ). restored_after terrain levels step m i j) n_is
    ∙ ap (λ (l : ℕ). cond (contains (level_region terrain.width terrain.height l) i j) (restored_cell C step i j (level_height terrain l i j)) (pos 0)) level_is
    ∙ ap (λ (t : Bool). cond t (restored_cell C step i j (h i j)) (pos 0)) (in_level terrain.width terrain.height level k i j e)
    ∙ cell i j in
    record {
      code = code;
      coding = record {
        word =
            subst (λ (b : List ℕ). IsWordOf (coded_values code region) b) (sym bytes)
            (subst (λ (xs : List ℤ). IsWordOf xs (canonical_word (coded_values full region))) (sym (values_same code full region coded)) of_full);
        even = zero_code;
      };
      near = λ i j e. is_near i j;
      restored = whole;
    }
