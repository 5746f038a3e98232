-- A canonical store is a store.
use Rattle.std.proofs.Common.{◌≡◌, Bool, true, false, cond, eqb, min, ℕ, zero, suc, ◌+◌, ◌-◌, ◌*◌, ◌^◌, ◌<◌, ◌≤◌, ℤ, pos, negsuc, ◌+ℤ◌, List, [], ◌∷◌, ◌++◌, map, filter, length, refl, ap, sym, ◌∙◌, subst, ⊎_elim, arith, append_assoc, append-nil, length-append}
use Rattle.std.specs.Int.{int_gap}
use Rattle.std.specs.List.{flat_map, range_with_len}
use Rattle.std.proofs.lemmas.Int.{ints}
use Rattle.std.proofs.lemmas.Bool.{cases_Bool}
use Rattle.std.proofs.lemmas.Bool.Decides.{nat_tests}
use Rattle.std.proofs.lemmas.List.{map-id, length-map}
use Rattle.std.proofs.lemmas.List.Concat.{flat_map-append}
use Rattle.std.proofs.lemmas.List.FromFn.{map-range_with_len_more, length-map-range_with_len}
use Rattle.clip_regions.specs.declared.region.Region.{Region}
use Rattle.clip_regions.specs.Regions.{columns, rows, numbers_from}
use Rattle.terrain_model.specs.Terrain.{Terrain, IsTerrain, level_height}
use Rattle.four_point.specs.Steps.{code_of, IsStep}
use Rattle.rice_residuals.specs.Word.{canonical_word}
use Rattle.store_model.specs.Sizes.{cells_on, block_region, cells_in_block, block_column, block_row}
use Rattle.store_model.specs.Blocks.{is_coded, coded_values, plain_bytes, signed_bytes, IsWordBlock}
use Rattle.store_model.specs.Format.{IsVersion, head_bytes}
use Rattle.store_model.specs.Store.{IsBlockOf, IsBlock, IsLevel, IsFront, IsStore}
use Rattle.store_model.specs.Restored.{restored_after, restored_height, restored_terrain, canonical_block, canonical_level, canonical_store, head_of}
use Rattle.store_model.specs.Laws.{CanonicalWordBlock, RestoredIsTerrain, RestoredLevels}
use Rattle.store_model.proofs.Outside.{level_outside, level_fits}

-- ---- lengths
flat_length : {A B : Type 0} (f : A → List B) (m : ℕ) (xs : List A) → ((x : A) → length (f x) ≤ m) → length (flat_map f xs) ≤ length xs * m
flat_length f m [] h = omega arith
flat_length f m (x ∷ xs) h =
    let first = h x in
    let rest : length (flat_map f xs) ≤ length xs * m = flat_length f m xs h in
    omega (arith, length-append (f x) (flat_map f xs))

filter_length : (p : ℤ → Bool) (xs : List ℤ) → length (filter p xs) ≤ length xs
filter_length p [] = omega arith
filter_length p (x ∷ xs) =
    let rest : length (filter p xs) ≤ length xs = filter_length p xs in
    elim (p x) as (λ t. length (cond t (x ∷ filter p xs) (filter p xs)) ≤ suc (length xs)) [ true ↦ omega arith | false ↦ omega arith ]

pub numbers_length : (a : ℤ) (n : ℕ) → length (numbers_from a n) ≡ n
numbers_length a n = length-map-range_with_len (λ i. a +ℤ pos i) 0 n

gap_few : (low high cells : ℕ) → high ≤ low + 7 → int_gap (pos low) (pos (min high (cells - 1)) +ℤ pos 1) ≤ 8
gap_few low high cells h = omega (arith, ints)

few_columns : (width height level k : ℕ) → columns (block_region width height level k) ≤ 8
unfolding columns block_region cells_in_block
few_columns width height level k = gap_few (8 * block_column width level k) (8 * block_column width level k + 7) (cells_on width level) (omega arith)

few_rows : (width height level k : ℕ) → rows (block_region width height level k) ≤ 8
unfolding rows block_region cells_in_block
few_rows width height level k = gap_few (8 * block_row width level k) (8 * block_row width level k + 7) (cells_on height level) (omega arith)

values_few : (f : ℤ → ℤ → ℤ) (region : Region) → columns region ≤ 8 → rows region ≤ 8 → length (coded_values f region) ≤ 64
unfolding coded_values
values_few f region c r =
    let across = numbers_from region.x0 (columns region) in
    let down = numbers_from region.y0 (rows region) in
    let row : (j : ℤ) → length (map (λ i. f i j) (filter (λ i. is_coded i j) across)) ≤ 8 =
    λ j. omega (arith, length-map (filter (λ i. is_coded i j) across) (λ i. f i j), filter_length (λ i. is_coded i j) across, numbers_length region.x0 (columns region)) in
    let all = flat_length (λ j. map (λ i. f i j) (filter (λ i. is_coded i j) across)) 8 down row in
    omega (arith, numbers_length region.y0 (rows region))

bytes_of_number : (z : ℤ) → length (signed_bytes z) ≤ 2
unfolding signed_bytes
bytes_of_number (pos n) = omega arith
bytes_of_number (negsuc n) = omega arith

plain_few : (f : ℤ → ℤ → ℤ) (region : Region) → columns region ≤ 8 → rows region ≤ 8 → length (plain_bytes f region) ≤ 128
unfolding plain_bytes
plain_few f region c r =
    let across = numbers_from region.x0 (columns region) in
    let down = numbers_from region.y0 (rows region) in
    let row : (j : ℤ) → length (flat_map (λ i. signed_bytes (f i j)) across) ≤ 16 =
    λ j. let one = flat_length (λ i. signed_bytes (f i j)) 2 across (λ i. bytes_of_number (f i j)) in omega (arith, numbers_length region.x0 (columns region)) in
    let all = flat_length (λ j. flat_map (λ i. signed_bytes (f i j)) across) 16 down row in
    omega (arith, numbers_length region.y0 (rows region))

chosen_few : (t : Bool) (x y : List ℕ) (m : ℕ) → length x < m → length y < m → length (cond t x y) < m
chosen_few true x y m p q = p
chosen_few false x y m p q = q

block_short : ((xs : List ℤ) → length xs ≤ 64 → length (canonical_word xs) ≤ 401) → (terrain : Terrain) (levels step level k : ℕ) → length (canonical_block terrain levels step level k) < 2 ^ 16
unfolding canonical_block
block_short short terrain levels step level k =
    let region = block_region terrain.width terrain.height level k in
    let c = few_columns terrain.width terrain.height level k in
    let r = few_rows terrain.width terrain.height level k in
    let full = λ (i j : ℤ). code_of (restored_height terrain levels step (level + 1)) step i j (level_height terrain level i j) in
    let plain = plain_few (level_height terrain level) region c r in
    let word = short (coded_values full region) (values_few full region c r) in
    chosen_few (eqb (level + 1) levels) (plain_bytes (level_height terrain level) region) (canonical_word (coded_values full region)) (2 ^ 16) (omega arith) (omega arith)

-- ---- blocks
step_of : (version step : ℕ) → IsVersion version step → IsStep step
step_of version step s =
    ⊎_elim
    (λ (one : (version ≡ 1) × (step ≡ 1)). subst IsStep (sym one.1) (record { odd = refl; high = omega arith }))
    (λ (two : (version ≡ 2) × IsStep step). two.1)
    s

block_is : CanonicalWordBlock → RestoredLevels → (version : ℕ) (terrain : Terrain) (levels step level k : ℕ) → IsTerrain terrain → IsVersion version step → level < levels → IsBlock (head_of version terrain levels step) (level_height (restored_terrain terrain levels step)) level k (canonical_block terrain levels step level k)
unfolding canonical_block restored_after
block_is words same version terrain levels step level k sound s below =
    let R = restored_terrain terrain levels step in
    let head = head_of version terrain levels step in
    let region = block_region terrain.width terrain.height level k in
    let here : level_height R level ≡ restored_height terrain levels step level = (λ t. λ i j. same terrain levels step level i j sound below t) in
    let block = canonical_block terrain levels step level k in
    ⊎_elim
    (λ (e : eqb (level + 1) levels ≡ true).
    let top : level + 1 ≡ levels = grind (arith, nat_tests) in
    let none : levels - suc level ≡ 0 = omega arith in
    let last : levels - 1 ≡ level = omega arith in
    let heights : level_height R level ≡ level_height terrain level =
    here ∙ ap (λ (n : ℕ). restored_after terrain levels step n) none ∙ (λ t. λ i j. level_height terrain (last t) i j) in
    let plain : block ≡ plain_bytes (level_height R level) region =
    ap (λ (t : Bool). cond t (plain_bytes (level_height terrain level) region) (canonical_word (coded_values (λ i j. code_of (restored_height terrain levels step (level + 1)) step i j (level_height terrain level i j)) region))) e
    ∙ ap (λ (f : ℤ → ℤ → ℤ). plain_bytes f region) (sym heights) in
    subst (λ (t : Bool). IsBlockOf t head (level_height R) level k block) (sym e) plain)
    (λ (e : eqb (level + 1) levels ≡ false).
    let less : level + 1 < levels = grind (arith, nat_tests) in
    let next : level_height R (level + 1) ≡ restored_height terrain levels step (level + 1) = (λ t. λ i j. same terrain levels step (level + 1) i j sound less t) in
    let word : IsWordBlock (restored_height terrain levels step (level + 1)) (restored_height terrain levels step level) step region block = words terrain levels step level k sound (step_of version step s) less in
    let moved : IsWordBlock (level_height R (level + 1)) (level_height R level) step region block =
    subst (λ (f : ℤ → ℤ → ℤ). IsWordBlock f (level_height R level) step region block) (sym next)
    (subst (λ (f : ℤ → ℤ → ℤ). IsWordBlock (restored_height terrain levels step (level + 1)) f step region block) (sym here) word) in
    subst (λ (t : Bool). IsBlockOf t head (level_height R) level k block) (sym e) moved)
    (cases_Bool (eqb (level + 1) levels))

-- ---- levels
pub range_more : (n : ℕ) → range_with_len 0 (n + 1) ≡ range_with_len 0 n ++ n ∷ []
range_more n =
    sym (map-id (range_with_len 0 (n + 1)))
    ∙ map-range_with_len_more (λ k. k) 0 n n (omega arith)
    ∙ ap (λ (xs : List ℕ). xs ++ n ∷ []) (map-id (range_with_len 0 n))

pub flat_range_more : (f : ℕ → List ℕ) (n : ℕ) → flat_map f (range_with_len 0 (n + 1)) ≡ flat_map f (range_with_len 0 n) ++ f n
flat_range_more f n =
    ap (flat_map f) (range_more n) ∙ flat_map-append f (range_with_len 0 n) (n ∷ []) ∙ ap (λ (ys : List ℕ). flat_map f (range_with_len 0 n) ++ ys) (append-nil (f n))

level_is : CanonicalWordBlock → RestoredIsTerrain → RestoredLevels → ((xs : List ℤ) → length xs ≤ 64 → length (canonical_word xs) ≤ 401) → (version : ℕ) (terrain : Terrain) (levels step level : ℕ) → IsTerrain terrain → IsVersion version step → level < levels → IsLevel (head_of version terrain levels step) (level_height (restored_terrain terrain levels step)) level (canonical_level terrain levels step level)
unfolding canonical_level restored_terrain
level_is words good same short version terrain levels step level sound s below = record {
  all = record {
    content = canonical_block terrain levels step level;
    short = λ k h. block_short short terrain levels step level k;
    blocks = λ k h. block_is words same version terrain levels step level k sound s below;
    spelled = refl;
  };
  short = λ i j. level_fits (restored_terrain terrain levels step) level i j (good terrain levels step sound);
  outside = λ i j e. level_outside (restored_terrain terrain levels step) level i j (good terrain levels step sound) e;
}

front_is : CanonicalWordBlock → RestoredIsTerrain → RestoredLevels → ((xs : List ℤ) → length xs ≤ 64 → length (canonical_word xs) ≤ 401) → (version : ℕ) (terrain : Terrain) (levels step : ℕ) → IsTerrain terrain → IsVersion version step → (n : ℕ) → n ≤ levels → IsFront (head_of version terrain levels step) (level_height (restored_terrain terrain levels step)) n (head_bytes (head_of version terrain levels step) ++ flat_map (λ m. canonical_level terrain levels step (levels - suc m)) (range_with_len 0 n))
front_is words good same short version terrain levels step sound s zero few = append-nil (head_bytes (head_of version terrain levels step))
front_is words good same short version terrain levels step sound s (suc n) few =
    let start = head_bytes (head_of version terrain levels step) in
    let f = λ (m : ℕ). canonical_level terrain levels step (levels - suc m) in
    let next : n + 1 ≡ suc n = omega arith in (
      start ++ flat_map f (range_with_len 0 n),
      f n,
      front_is words good same short version terrain levels step sound s n (omega arith),
      level_is words good same short version terrain levels step (levels - suc n) sound s (omega arith),
      ap (λ (m : ℕ). start ++ flat_map f (range_with_len 0 m)) (sym next)
          ∙ ap (λ (xs : List ℕ). start ++ xs) (flat_range_more f n)
          ∙ sym (append_assoc start (flat_map f (range_with_len 0 n)) (f n)),
    )

pub canonical_is_store : CanonicalWordBlock → RestoredIsTerrain → RestoredLevels → ((xs : List ℤ) → length xs ≤ 64 → length (canonical_word xs) ≤ 401) → (version : ℕ) (terrain : Terrain) (levels step : ℕ) → IsTerrain terrain → 1 ≤ levels → levels ≤ 12 → IsVersion version step → IsStore (head_of version terrain levels step) (restored_terrain terrain levels step) (canonical_store version terrain levels step)
unfolding canonical_store restored_terrain
canonical_is_store words good same short version terrain levels step sound some few s = record {
  sound = record {
    some_columns = sound.some_columns;
    some_rows = sound.some_rows;
    few_samples = sound.few_samples;
    some_levels = some;
    few_levels = few;
    version = s;
  };
  sound_terrain = good terrain levels step sound;
  same_width = refl;
  same_height = refl;
  whole = front_is words good same short version terrain levels step sound s levels (omega arith);
}
