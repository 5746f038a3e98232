-- The blocks of a store by their numbers.
use Rattle.std.proofs.Common.{◌≡◌, cond, eqb, ℕ, zero, suc, ◌+◌, ◌-◌, ◌<◌, ◌≤◌, List, [], ◌∷◌, ◌++◌, length, refl, ap, sym, ◌∙◌, subst, ⊎_elim, arith, append_assoc, append-nil, length-append}
use Rattle.std.specs.List.{flat_map, range_with_len}
use Rattle.std.proofs.lemmas.Bool.{cases_lt}
use Rattle.four_point.specs.Steps.{IsStep}
use Rattle.terrain_model.specs.Terrain.{Terrain, level_height}
use Rattle.store_model.specs.Sizes.{block_count}
use Rattle.store_model.specs.Format.{Head, IsVersion, head_bytes, entry}
use Rattle.store_model.specs.Store.{Levels, IsLevel, IsFront, IsStore}
use Rattle.store_index.specs.Places.{blocks_before, block_total, number_of, content_at, behind, AreThere, first_offset, stored_block, IsBlockIn}
use Rattle.store_index.proofs.Lists.{FrontSplit, front_split, flat_split}
use Rattle.store_index.proofs.Walks.{content_here, behind_add, walked}

-- ---- the header
head_size : (head : Head) → IsVersion head.version head.step → length (head_bytes head) ≡ 12 + head.version
unfolding head_bytes
head_size head known =
    counted (length (cond (eqb head.version 2) (head.step ∷ []) []))
    ∙ ⊎_elim
    (λ (one : (head.version ≡ 1) × (head.step ≡ 1)). ap (λ (v : ℕ). 13 + length (cond (eqb v 2) (head.step ∷ []) [])) one.0 ∙ ap (λ (v : ℕ). 12 + v) (sym one.0))
    (λ (two : (head.version ≡ 2) × IsStep head.step). ap (λ (v : ℕ). 13 + length (cond (eqb v 2) (head.step ∷ []) [])) two.0 ∙ ap (λ (v : ℕ). 12 + v) (sym two.0))
    known
  where
    counted : (n : ℕ) → suc (suc (suc (suc (suc (suc (suc (suc (suc (suc (suc (suc (suc n)))))))))))) ≡ 13 + n
    counted n = omega arith

-- ---- whole levels
-- the offset behind k blocks of a level is that of the bytes so far
in_level : (head : Head) (heights : Levels) (level k : ℕ) (bytes before here after : List ℕ) (x : IsLevel head heights level here) → bytes ≡ before ++ (here ++ after) → k ≤ block_count head.width head.height level → behind bytes (length before) k ≡ length (before ++ flat_map (λ m. entry (x.all.content m)) (range_with_len 0 k))
in_level head heights level k bytes before here after x spelled few =
    walked bytes before after x.all.content (block_count head.width head.height level) k x.all.short (spelled ∙ ap (λ (xs : List ℕ). before ++ (xs ++ after)) x.all.spelled) few

pub behind_front : (head : Head) (heights : Levels) (n : ℕ) (bytes before after : List ℕ) → IsVersion head.version head.step → IsFront head heights n before → bytes ≡ before ++ after → behind bytes (first_offset head) (blocks_before head n) ≡ length before
unfolding behind blocks_before
behind_front head heights zero bytes before after known x spelled = sym (ap length x ∙ head_size head known)
behind_front head heights (suc n) bytes before after known x spelled =
    let count = block_count head.width head.height (head.levels - suc n) in
    let moved : bytes ≡ x.0 ++ (x.1 ++ after) = spelled ∙ ap (λ (xs : List ℕ). xs ++ after) x.4 ∙ append_assoc x.0 x.1 after in
    let so_far = behind_front head heights n bytes x.0 (x.1 ++ after) known x.2 moved in
    sym (behind_add bytes (first_offset head) (blocks_before head n) count)
    ∙ ap (λ (at : ℕ). behind bytes at count) so_far
    ∙ in_level head heights (head.levels - suc n) count bytes x.0 x.1 after x.3 moved (omega arith)
    ∙ ap (λ (xs : List ℕ). length (x.0 ++ xs)) (sym x.3.all.spelled)
    ∙ ap length (sym x.4)

front_there : (head : Head) (heights : Levels) (n : ℕ) (bytes before after : List ℕ) → IsVersion head.version head.step → IsFront head heights n before → bytes ≡ before ++ after → AreThere bytes (first_offset head) (blocks_before head n)
unfolding behind blocks_before
front_there head heights zero bytes before after known x spelled = λ m few.
    let none : m ≡ 0 = omega arith in
    let size : length before ≡ first_offset head = ap length x ∙ head_size head known in
    let whole : length bytes ≡ length before + length after = ap length spelled ∙ length-append before after in
    subst (λ (k : ℕ). behind bytes (first_offset head) k ≤ length bytes) (sym none) (omega arith)
front_there head heights (suc n) bytes before after known x spelled = λ m few.
    let count = block_count head.width head.height (head.levels - suc n) in
    let so_far = blocks_before head n in
    let moved : bytes ≡ x.0 ++ (x.1 ++ after) = spelled ∙ ap (λ (xs : List ℕ). xs ++ after) x.4 ∙ append_assoc x.0 x.1 after in
    ⊎_elim
    (λ (l : m < so_far). front_there head heights n bytes x.0 (x.1 ++ after) known x.2 moved m (omega arith))
    (λ (l : so_far ≤ m).
    let k = m - so_far in
    let is : so_far + k ≡ m = omega arith in
    let low : k ≤ count = omega arith in
    let f : ℕ → List ℕ = λ i. entry (x.3.all.content i) in
    let here : behind bytes (first_offset head) m ≡ length (x.0 ++ flat_map f (range_with_len 0 k)) =
    ap (behind bytes (first_offset head)) (sym is)
    ∙ sym (behind_add bytes (first_offset head) so_far k)
    ∙ ap (λ (at : ℕ). behind bytes at k) (behind_front head heights n bytes x.0 (x.1 ++ after) known x.2 moved)
    ∙ in_level head heights (head.levels - suc n) k bytes x.0 x.1 after x.3 moved low in
    let part : length (flat_map f (range_with_len 0 k)) ≤ length x.1 = subst (λ (xs : List ℕ). length (flat_map f (range_with_len 0 k)) ≤ length xs) (sym x.3.all.spelled) (fewer f k count low) in
    let sum : length (x.0 ++ flat_map f (range_with_len 0 k)) ≡ length x.0 + length (flat_map f (range_with_len 0 k)) = length-append x.0 (flat_map f (range_with_len 0 k)) in
    let whole : length bytes ≡ length x.0 + (length x.1 + length after) = ap length moved ∙ length-append x.0 (x.1 ++ after) ∙ ap (λ (s : ℕ). length x.0 + s) (length-append x.1 after) in
    omega arith)
    (cases_lt m so_far)
  where
    fewer : (f : ℕ → List ℕ) (k n : ℕ) → k ≤ n → length (flat_map f (range_with_len 0 k)) ≤ length (flat_map f (range_with_len 0 n))
    fewer f k n low =
        ⊎_elim
        (λ (l : k < n).
        let split = flat_split f k n l in
        let sum : length (flat_map f (range_with_len 0 n)) ≡ length (flat_map f (range_with_len 0 k)) + length (f k ++ split.0) = ap length split.1 ∙ length-append (flat_map f (range_with_len 0 k)) (f k ++ split.0) in
        omega arith)
        (λ (l : n ≤ k). let same : k ≡ n = omega arith in subst (λ (i : ℕ). length (flat_map f (range_with_len 0 k)) ≤ length (flat_map f (range_with_len 0 i))) same (omega arith))
        (cases_lt k n)

pub blocks_there : (head : Head) (terrain : Terrain) (bytes : List ℕ) → IsStore head terrain bytes → AreThere bytes (first_offset head) (block_total head)
blocks_there head terrain bytes store =
    front_there head (level_height terrain) head.levels bytes bytes [] store.sound.version store.whole (sym (append-nil bytes))

-- ---- one block
pub block_found : (head : Head) (terrain : Terrain) (bytes : List ℕ) (level k : ℕ) → IsStore head terrain bytes → level < head.levels → k < block_count head.width head.height level → IsBlockIn head (level_height terrain) bytes level k (stored_block head bytes (number_of head level k))
block_found head terrain bytes level k store low below =
    let m = head.levels - suc level in
    let parts : FrontSplit head (level_height terrain) m bytes = front_split head (level_height terrain) m head.levels bytes (omega arith) store.whole in
    let same : head.levels - suc m ≡ level = omega arith in
    let here : IsLevel head (level_height terrain) level parts.here = subst (λ (l : ℕ). IsLevel head (level_height terrain) l parts.here) same parts.whole in
    let f : ℕ → List ℕ = λ i. entry (here.all.content i) in
    let content = here.all.content k in
    let blocks = flat_map f (range_with_len 0 k) in
    let split = flat_split f k (block_count head.width head.height level) below in
    let spelled : bytes ≡ parts.before ++ (blocks ++ (entry content ++ (split.0 ++ parts.after))) =
    parts.spelled
    ∙ ap (λ (xs : List ℕ). parts.before ++ (xs ++ parts.after)) (here.all.spelled ∙ split.1)
    ∙ ap (λ (xs : List ℕ). parts.before ++ xs) (append_assoc blocks (f k ++ split.0) parts.after ∙ ap (λ (xs : List ℕ). blocks ++ xs) (append_assoc (f k) split.0 parts.after)) in
    let at = behind bytes (first_offset head) (number_of head level k) in
    let place : at ≡ length (parts.before ++ blocks) =
    sym (behind_add bytes (first_offset head) (blocks_before head m) k)
    ∙ ap (λ (b : ℕ). behind bytes b k) (behind_front head (level_height terrain) m bytes parts.before (parts.here ++ parts.after) store.sound.version parts.front parts.spelled)
    ∙ in_level head (level_height terrain) level k bytes parts.before parts.here parts.after here parts.spelled (omega arith) in
    let found : content_at bytes at ≡ content = content_here bytes (parts.before ++ blocks) content (split.0 ++ parts.after) at (here.all.short k below) place (spelled ∙ sym (append_assoc parts.before blocks (entry content ++ (split.0 ++ parts.after)))) in
    subst (λ (xs : List ℕ). IsBlockIn head (level_height terrain) bytes level k xs) (sym found) (record {
      before = parts.before;
      blocks = blocks;
      after = split.0 ++ parts.after;
      front = parts.front;
      done = record { content = here.all.content; short = λ i l. here.all.short i (omega arith); blocks = λ i l. here.all.blocks i (omega arith); spelled = refl };
      short = here.all.short k below;
      stands = here.all.blocks k below;
      spelled = spelled;
    })

-- ---- numbers
more_before : (head : Head) (m n : ℕ) → m ≤ n → blocks_before head m ≤ blocks_before head n
unfolding blocks_before
more_before head m zero few = let none : m ≡ 0 = omega arith in subst (λ (i : ℕ). blocks_before head i ≤ 0) (sym none) (omega arith)
more_before head m (suc n) few =
    ⊎_elim
    (λ (l : m < suc n). let so_far = more_before head m n (omega arith) in omega arith)
    (λ (l : suc n ≤ m). let same : m ≡ suc n = omega arith in subst (λ (i : ℕ). blocks_before head i ≤ blocks_before head (suc n)) (sym same) (omega arith))
    (cases_lt m (suc n))

pub number_below : (head : Head) (level k : ℕ) → level < head.levels → k < block_count head.width head.height level → number_of head level k < block_total head
unfolding blocks_before
number_below head level k low below =
    let m = head.levels - suc level in
    let same : head.levels - suc m ≡ level = omega arith in
    let more = more_before head (suc m) head.levels (omega arith) in
    let here : blocks_before head (suc m) ≡ blocks_before head m + block_count head.width head.height level = ap (λ (l : ℕ). blocks_before head m + block_count head.width head.height l) same in
    omega arith
