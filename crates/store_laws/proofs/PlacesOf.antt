-- Places in the bytes of a store: what stands before one is told by the bytes, and before a later one a whole block stands.
use Rattle.std.proofs.Common.{◌≡◌, ◌⊎◌, inl, inr, Bool, true, false, eqb, ℕ, zero, suc, ◌+◌, ◌-◌, ◌^◌, ◌<◌, ◌≤◌, ℤ, FitsSigned, List, [], ◌++◌, length, refl, ap, sym, ◌∙◌, subst, ⊎_elim, arith, append_assoc, append-nil}
use Rattle.std.specs.Int.{w16}
use Rattle.std.specs.List.{flat_map, range_with_len}
use Rattle.std.proofs.lemmas.Bool.{cases_Bool, cases_eq, cases_lt}
use Rattle.std.proofs.lemmas.Bool.Decides.{nat_tests}
use Rattle.std.proofs.lemmas.List.{append_cancel_left}
use Rattle.clip_regions.specs.Regions.{contains}
use Rattle.store_model.specs.Sizes.{level_region, block_count}
use Rattle.store_model.specs.Format.{Head, head_bytes, entry}
use Rattle.store_model.specs.Store.{Levels, region_of, IsBlockOf, IsBlock, AreBlocks, IsLevel, IsFront}
use Rattle.store_laws.specs.Places.{IsPlace}
use Rattle.store_laws.proofs.Entries.{entries_apart}
use Rattle.store_laws.proofs.Cells.{in_block}
use Rattle.store_laws.proofs.Blocks.{OneList, word_heights_same, plain_heights_same}
use Rattle.store_model.proofs.Stores.{flat_range_more}

-- ---- blocks one behind another
-- k blocks of a level, the next one, and what is left of the level's bytes
pub record Split (head : Head) (heights : Levels) (level k : ℕ) (bytes : List ℕ) : Type 0 where
  pub first : List ℕ
  pub content : List ℕ
  pub after : List ℕ
  pub done : AreBlocks head heights level k first
  pub short : length content < 2 ^ 16
  pub block : IsBlock head heights level k content
  pub spelled : bytes ≡ first ++ (entry content ++ after)

fewer : (head : Head) (heights : Levels) (level k n : ℕ) (bytes : List ℕ) → k ≤ n → (all : AreBlocks head heights level n bytes) → AreBlocks head heights level k (flat_map (λ m. entry (all.content m)) (range_with_len 0 k))
fewer head heights level k n bytes h all = record {
  content = all.content;
  short = λ m l. all.short m (omega arith);
  blocks = λ m l. all.blocks m (omega arith);
  spelled = refl;
}

flat_split : (f : ℕ → List ℕ) (k n : ℕ) → k < n → (after : List ℕ) × (flat_map f (range_with_len 0 n) ≡ flat_map f (range_with_len 0 k) ++ (f k ++ after))
flat_split f k zero h = absurd (omega arith)
flat_split f k (suc n) h =
    let next : n + 1 ≡ suc n = omega arith in
    let more : flat_map f (range_with_len 0 (suc n)) ≡ flat_map f (range_with_len 0 n) ++ f n = ap (λ (m : ℕ). flat_map f (range_with_len 0 m)) (sym next) ∙ flat_range_more f n in
    ⊎_elim
    (λ (l : k < n).
    let rest = flat_split f k n l in
    let moved : flat_map f (range_with_len 0 (suc n)) ≡ flat_map f (range_with_len 0 k) ++ (f k ++ (rest.0 ++ f n)) =
    more ∙ ap (λ (xs : List ℕ). xs ++ f n) rest.1 ∙ append_assoc (flat_map f (range_with_len 0 k)) (f k ++ rest.0) (f n) ∙ ap (λ (xs : List ℕ). flat_map f (range_with_len 0 k) ++ xs) (append_assoc (f k) rest.0 (f n)) in
    (rest.0 ++ f n, moved))
    (λ (l : n ≤ k).
    let same : n ≡ k = omega arith in
    let moved : flat_map f (range_with_len 0 (suc n)) ≡ flat_map f (range_with_len 0 k) ++ (f k ++ []) =
    more ∙ ap (λ (m : ℕ). flat_map f (range_with_len 0 m) ++ f m) same ∙ ap (λ (xs : List ℕ). flat_map f (range_with_len 0 k) ++ xs) (sym (append-nil (f k))) in
    ([], moved))
    (cases_lt k n)

pub blocks_split : (head : Head) (heights : Levels) (level k n : ℕ) (bytes : List ℕ) → k < n → AreBlocks head heights level n bytes → Split head heights level k bytes
blocks_split head heights level k n bytes h all =
    let parts = flat_split (λ m. entry (all.content m)) k n h in
    record {
      first = flat_map (λ m. entry (all.content m)) (range_with_len 0 k);
      content = all.content k;
      after = parts.0;
      done = fewer head heights level k n bytes (omega arith) all;
      short = all.short k h;
      block = all.blocks k h;
      spelled = all.spelled ∙ parts.1;
    }

pub no_blocks : (head : Head) (heights : Levels) (level : ℕ) → AreBlocks head heights level 0 []
no_blocks head heights level = record { content = λ m. []; short = λ m l. absurd (omega arith); blocks = λ m l. absurd (omega arith); spelled = refl }

-- ---- one level's heights are told by its bytes
block_heights_same : OneList → (top : Bool) (head : Head) (heights other : Levels) (level k : ℕ) (bytes : List ℕ) (i j : ℤ) → (top ≡ false → heights (level + 1) ≡ other (level + 1)) → ((a b : ℤ) → FitsSigned w16 (heights level a b)) → ((a b : ℤ) → FitsSigned w16 (other level a b)) → IsBlockOf top head heights level k bytes → IsBlockOf top head other level k bytes → contains (region_of head level k) i j ≡ true → heights level i j ≡ other level i j
block_heights_same one true head heights other level k bytes i j coarser p q a b inside =
    plain_heights_same (heights level) (other level) (region_of head level k) i j p q (sym a ∙ b) inside
block_heights_same one false head heights other level k bytes i j coarser p q a b inside =
    word_heights_same one (heights (level + 1)) (other (level + 1)) (heights level) (other level) head.step (region_of head level k) bytes i j (coarser refl) a b inside

level_apart : OneList → (head : Head) (heights other : Levels) (level : ℕ) (b c r s : List ℕ) → (eqb (level + 1) head.levels ≡ false → heights (level + 1) ≡ other (level + 1)) → IsLevel head heights level b → IsLevel head other level c → b ++ r ≡ c ++ s → (heights level ≡ other level) × (r ≡ s)
level_apart one head heights other level b c r s coarser x y e =
    let count = block_count head.width head.height level in
    let moved = ap (λ (xs : List ℕ). xs ++ r) (sym x.all.spelled) ∙ e ∙ ap (λ (xs : List ℕ). xs ++ s) y.all.spelled in
    let parts = entries_apart x.all.content y.all.content count r s x.all.short y.all.short moved in
    let cell : (i j : ℤ) → heights level i j ≡ other level i j = λ i j.
    ⊎_elim
    (λ (inside : contains (level_region head.width head.height level) i j ≡ true).
    let at = in_block head.width head.height level i j inside in
    block_heights_same one (eqb (level + 1) head.levels) head heights other level at.k (y.all.content at.k) i j coarser x.short y.short
    (subst (λ (xs : List ℕ). IsBlock head heights level at.k xs) (parts.0 at.k at.below) (x.all.blocks at.k at.below))
    (y.all.blocks at.k at.below) at.inside)
    (λ (out : contains (level_region head.width head.height level) i j ≡ false). x.outside i j out ∙ sym (y.outside i j out))
    (cases_Bool (contains (level_region head.width head.height level) i j)) in
    ((λ t. λ i j. cell i j t), parts.1)

-- two families of heights are the same at the n coarsest levels
abbrev pub AgreeFrom : Head → Levels → Levels → ℕ → Type 0
AgreeFrom head heights other n = (m : ℕ) → head.levels ≤ m + n → m < head.levels → heights m ≡ other m

pub front_apart : OneList → (head : Head) (heights other : Levels) (n : ℕ) (b c r s : List ℕ) → n ≤ head.levels → IsFront head heights n b → IsFront head other n c → b ++ r ≡ c ++ s → AgreeFrom head heights other n × (r ≡ s)
front_apart one head heights other zero b c r s few x y e =
    ((λ m l h. absurd (omega arith)), append_cancel_left (head_bytes head) r s (ap (λ (xs : List ℕ). xs ++ r) (sym x) ∙ e ∙ ap (λ (xs : List ℕ). xs ++ s) y))
front_apart one head heights other (suc n) b c r s few x y e =
    let level = head.levels - suc n in
    let moved : x.0 ++ (x.1 ++ r) ≡ y.0 ++ (y.1 ++ s) =
    sym (append_assoc x.0 x.1 r) ∙ ap (λ (xs : List ℕ). xs ++ r) (sym x.4) ∙ e ∙ ap (λ (xs : List ℕ). xs ++ s) y.4 ∙ append_assoc y.0 y.1 s in
    let before = front_apart one head heights other n x.0 y.0 (x.1 ++ r) (y.1 ++ s) (omega arith) x.2 y.2 moved in
    let here = level_apart one head heights other level x.1 y.1 r s
    (λ (t : eqb (level + 1) head.levels ≡ false). (let less : level + 1 < head.levels = grind (arith, nat_tests) in before.0 (level + 1) (omega arith) less))
    x.3 y.3 before.1 in
    let all : (m : ℕ) → head.levels ≤ m + suc n → m < head.levels → heights m ≡ other m = λ m l h.
    ⊎_elim
    (λ (same : m ≡ level). subst (λ (v : ℕ). heights v ≡ other v) (sym same) here.0)
    (λ (apart : m ≡ level → ⊥). before.0 m (omega (arith, apart)) h)
    (cases_eq m level) in
    (all, here.1)

-- ---- a front has the fronts of fewer levels
pub record FrontSplit (head : Head) (heights : Levels) (level : ℕ) (bytes : List ℕ) : Type 0 where
  pub before : List ℕ
  pub here : List ℕ
  pub after : List ℕ
  pub front : IsFront head heights (head.levels - suc level) before
  pub whole : IsLevel head heights level here
  pub spelled : bytes ≡ before ++ (here ++ after)

pub front_split : (head : Head) (heights : Levels) (level n : ℕ) (bytes : List ℕ) → level < head.levels → n ≤ head.levels → head.levels ≤ level + n → IsFront head heights n bytes → FrontSplit head heights level bytes
front_split head heights level zero bytes below few among x = absurd (omega arith)
front_split head heights level (suc n) bytes below few among x =
    ⊎_elim
    (λ (l : head.levels ≤ level + n).
    let rest = front_split head heights level n x.0 below (omega arith) l x.2 in
    record {
      before = rest.before;
      here = rest.here;
      after = rest.after ++ x.1;
      front = rest.front;
      whole = rest.whole;
      spelled =
          x.4
          ∙ ap (λ (xs : List ℕ). xs ++ x.1) rest.spelled
          ∙ append_assoc rest.before (rest.here ++ rest.after) x.1
          ∙ ap (λ (xs : List ℕ). rest.before ++ xs) (append_assoc rest.here rest.after x.1);
    })
    (λ (l : head.levels ≤ level + n → ⊥).
    let same : head.levels - suc n ≡ level = omega (arith, l) in
    let count : n ≡ head.levels - suc level = omega (arith, l) in
    record {
      before = x.0;
      here = x.1;
      after = [];
      front = subst (λ (m : ℕ). IsFront head heights m x.0) count x.2;
      whole = subst (λ (m : ℕ). IsLevel head heights m x.1) same x.3;
      spelled = x.4 ∙ ap (λ (xs : List ℕ). x.0 ++ xs) (sym (append-nil x.1));
    })
    (cases_le head.levels (level + n))
  where
    cases_le : (a b : ℕ) → (a ≤ b) ⊎ (a ≤ b → ⊥)
    cases_le a b = ⊎_elim (λ (l : b < a). inr (λ h. omega arith)) (λ (l : a ≤ b). inl l) (cases_lt b a)

-- ---- what stands at a place that another one comes behind
pub record BlockAhead (head : Head) (other : Levels) (level k : ℕ) (rest : List ℕ) : Type 0 where
  pub content : List ℕ
  pub after : List ℕ
  pub short : length content < 2 ^ 16
  pub block : IsBlock head other level k content
  pub spelled : rest ≡ entry content ++ after

pub same_place : OneList → (head : Head) (heights other : Levels) (level k : ℕ) (bytes r s : List ℕ) → IsPlace head heights level k bytes r → IsPlace head other level k bytes s → AgreeFrom head heights other (head.levels - suc level) × (r ≡ s)
same_place one head heights other level k bytes r s x y =
    let first = front_apart one head heights other (head.levels - suc level) x.before y.before (x.blocks ++ r) (y.blocks ++ s) (omega arith) x.front y.front (sym x.spelled ∙ y.spelled) in
    let moved = ap (λ (xs : List ℕ). xs ++ r) (sym x.done.spelled) ∙ first.1 ∙ ap (λ (xs : List ℕ). xs ++ s) y.done.spelled in
    let parts = entries_apart x.done.content y.done.content k r s x.done.short y.done.short moved in
    (first.0, parts.1)

-- a place before some blocks and a level's first ones
place_before : (head : Head) (other : Levels) (level k : ℕ) (bytes before here after : List ℕ) → IsFront head other (head.levels - suc level) before → (s : Split head other level k here) → bytes ≡ before ++ (here ++ after) → IsPlace head other level k bytes (entry s.content ++ (s.after ++ after))
place_before head other level k bytes before here after front s e = record {
  before = before;
  blocks = s.first;
  front = front;
  done = s.done;
  spelled =
      e
      ∙ ap (λ (xs : List ℕ). before ++ (xs ++ after)) s.spelled
      ∙ ap (λ (xs : List ℕ). before ++ xs) (append_assoc s.first (entry s.content ++ s.after) after)
      ∙ ap (λ (xs : List ℕ). before ++ (s.first ++ xs)) (append_assoc (entry s.content) s.after after);
}

ahead_of : OneList → (head : Head) (heights other : Levels) (level k : ℕ) (bytes rest before here after : List ℕ) → IsPlace head heights level k bytes rest → IsFront head other (head.levels - suc level) before → Split head other level k here → bytes ≡ before ++ (here ++ after) → AgreeFrom head heights other (head.levels - suc level) × BlockAhead head other level k rest
ahead_of one head heights other level k bytes rest before here after x front s e =
    let second = place_before head other level k bytes before here after front s e in
    let same = same_place one head heights other level k bytes rest (entry s.content ++ (s.after ++ after)) x second in
    (same.0, record { content = s.content; after = s.after ++ after; short = s.short; block = s.block; spelled = same.1 })

-- a later place of the same level
pub ahead_in_level : OneList → (head : Head) (heights other : Levels) (level k n : ℕ) (bytes r s : List ℕ) → k < n → IsPlace head heights level k bytes r → IsPlace head other level n bytes s → AgreeFrom head heights other (head.levels - suc level) × BlockAhead head other level k r
ahead_in_level one head heights other level k n bytes r s h x y =
    ahead_of one head heights other level k bytes r y.before y.blocks s x y.front (blocks_split head other level k n y.blocks h y.done) y.spelled

-- a whole front that has this level
pub ahead_in_front : OneList → (head : Head) (heights other : Levels) (level k n : ℕ) (bytes r before s : List ℕ) → level < head.levels → k < block_count head.width head.height level → n ≤ head.levels → head.levels ≤ level + n → IsPlace head heights level k bytes r → IsFront head other n before → bytes ≡ before ++ s → AgreeFrom head heights other (head.levels - suc level) × BlockAhead head other level k r
ahead_in_front one head heights other level k n bytes r before s below inside few among x front e =
    let f = front_split head other level n before below few among front in
    let moved : bytes ≡ f.before ++ (f.here ++ (f.after ++ s)) =
    e
    ∙ ap (λ (xs : List ℕ). xs ++ s) f.spelled
    ∙ append_assoc f.before (f.here ++ f.after) s
    ∙ ap (λ (xs : List ℕ). f.before ++ xs) (append_assoc f.here f.after s) in
    ahead_of one head heights other level k bytes r f.before f.here (f.after ++ s) x f.front (blocks_split head other level k (block_count head.width head.height level) f.here inside f.whole.all) moved
