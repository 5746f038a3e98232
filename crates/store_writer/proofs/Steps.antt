-- The levels of a store, from the coarsest.
use Rattle.std.proofs.Common.{◌≡◌, true, false, cond, eqb, ℕ, suc, ◌+◌, ◌-◌, ◌<◌, ◌≤◌, ℤ, List, ◌++◌, refl, ap, sym, ◌∙◌, arith, append-nil, append_assoc}
use Rattle.std.proofs.lemmas.Bool.Decides.{nat_tests}
use Rattle.std.specs.List.{flat_map, range_with_len}
use Rattle.terrain_model.specs.Terrain.{Terrain, level_height}
use Rattle.rice_residuals.specs.Word.{canonical_word}
use Rattle.store_model.specs.Sizes.{level_region, block_count, block_region}
use Rattle.store_model.specs.Blocks.{coded_values, plain_bytes}
use Rattle.store_model.specs.Format.{head_bytes, entry}
use Rattle.store_model.specs.Restored.{restored_after, restored_height, canonical_block, canonical_level, canonical_store, head_of}
use Rattle.store_writer.specs.Entries.{code_over, plain_entry, word_entry, level_entries}
use Rattle.store_writer.specs.Tables.{restored_in}
use Rattle.store_writer.specs.Coarser.{AreRestored}
use Rattle.store_writer.proofs.Rows.{flat_range_more}

-- the coarsest level's restored heights are its heights
pub coarsest_restored : (terrain : Terrain) (levels step : ℕ) (i j : ℤ) → 1 ≤ levels → level_height terrain (levels - 1) i j ≡ restored_height terrain levels step (levels - 1) i j
unfolding restored_after
coarsest_restored terrain levels step i j some =
    let none : levels - suc (levels - 1) ≡ 0 = omega arith in
    sym (ap (λ (n : ℕ). restored_after terrain levels step n i j) none)

-- and those of another level are restored over those of the next coarser one
pub finer_restored : (C : ℤ → ℤ → ℤ) (terrain : Terrain) (levels step level : ℕ) (i j : ℤ) → level + 1 < levels → AreRestored C terrain levels step (level + 1) → restored_in C (level_height terrain level) step (level_region terrain.width terrain.height level) i j ≡ restored_height terrain levels step level i j
unfolding restored_in restored_after
finer_restored C terrain levels step level i j below h =
    let n = levels - suc (level + 1) in
    let n_is : levels - suc level ≡ suc n = omega arith in
    let level_is : levels - suc (suc n) ≡ level = omega arith in
    let same : C ≡ restored_after terrain levels step n = λ t. λ a b. h a b t in
    ap (λ (c : ℤ → ℤ → ℤ). restored_in c (level_height terrain level) step (level_region terrain.width terrain.height level) i j) same
    ∙ sym (ap (λ (l : ℕ). restored_in (restored_after terrain levels step n) (level_height terrain l) step (level_region terrain.width terrain.height l) i j) level_is)
    ∙ sym (ap (λ (m : ℕ). restored_after terrain levels step m i j) n_is)

-- the coarsest level is written as heights
pub coarsest_level : (terrain : Terrain) (levels step : ℕ) → 1 ≤ levels → level_entries (plain_entry (level_height terrain (levels - 1))) terrain.width terrain.height (levels - 1) ≡ canonical_level terrain levels step (levels - 1)
unfolding level_entries plain_entry canonical_level canonical_block
coarsest_level terrain levels step some =
    let top : eqb (levels - 1 + 1) levels ≡ true = grind (arith, nat_tests) in
    let region = block_region terrain.width terrain.height (levels - 1) in
    let plain = λ (k : ℕ). plain_bytes (level_height terrain (levels - 1)) (region k) in
    let words = λ (k : ℕ). canonical_word (coded_values (code_over (restored_height terrain levels step (levels - 1 + 1)) (level_height terrain (levels - 1)) step) (region k)) in
    sym (λ t. flat_map (λ k. entry (cond (top t) (plain k) (words k))) (range_with_len 0 (block_count terrain.width terrain.height (levels - 1))))

-- and another one as words over the restored heights of the next coarser one
pub finer_level : (C : ℤ → ℤ → ℤ) (terrain : Terrain) (levels step level : ℕ) → level + 1 < levels → AreRestored C terrain levels step (level + 1) → level_entries (word_entry C (level_height terrain level) step) terrain.width terrain.height level ≡ canonical_level terrain levels step level
unfolding level_entries word_entry canonical_level canonical_block
finer_level C terrain levels step level below h =
    let same : C ≡ restored_height terrain levels step (level + 1) = λ t. λ a b. h a b t in
    let not_top : eqb (level + 1) levels ≡ false = grind (arith, nat_tests) in
    let region = block_region terrain.width terrain.height level in
    let plain = λ (k : ℕ). plain_bytes (level_height terrain level) (region k) in
    let words = λ (k : ℕ). canonical_word (coded_values (code_over (restored_height terrain levels step (level + 1)) (level_height terrain level) step) (region k)) in
    ap (λ (c : ℤ → ℤ → ℤ). level_entries (word_entry c (level_height terrain level) step) terrain.width terrain.height level) same
    ∙ sym (λ t. flat_map (λ k. entry (cond (not_top t) (plain k) (words k))) (range_with_len 0 (block_count terrain.width terrain.height level)))

-- the header and the n coarsest levels
unfoldable pub front : ℕ → Terrain → ℕ → ℕ → ℕ → List ℕ
front version terrain levels step n =
    head_bytes (head_of version terrain levels step)
    ++ flat_map (λ n. canonical_level terrain levels step (levels - suc n)) (range_with_len 0 n)

append_split : (a b c : List ℕ) → (a ++ b) ++ c ≡ a ++ (b ++ c)
append_split a b c = append_assoc a b c

pub front_none : (version : ℕ) (terrain : Terrain) (levels step : ℕ) → front version terrain levels step 0 ≡ head_bytes (head_of version terrain levels step)
unfolding front
front_none version terrain levels step = append-nil (head_bytes (head_of version terrain levels step))

pub front_more : (version : ℕ) (terrain : Terrain) (levels step n : ℕ) → front version terrain levels step (n + 1) ≡ front version terrain levels step n ++ canonical_level terrain levels step (levels - suc n)
unfolding front
front_more version terrain levels step n =
    let head = head_bytes (head_of version terrain levels step) in
    let of = λ (n : ℕ). canonical_level terrain levels step (levels - suc n) in
    ap (λ (xs : List ℕ). head ++ xs) (flat_range_more of n) ∙ sym (append_split head (flat_map of (range_with_len 0 n)) (of n))

pub front_all : (version : ℕ) (terrain : Terrain) (levels step : ℕ) → front version terrain levels step levels ≡ canonical_store version terrain levels step
unfolding front canonical_store
front_all version terrain levels step = refl
