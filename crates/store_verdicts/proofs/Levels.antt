-- Any bytes behind those of a header and of some levels are those of the next level, or have a fault.
use Rattle.std.proofs.Common.{◌≡◌, ◌⊎◌, inl, inr, Bool, true, false, eqb, ℕ, zero, suc, ◌+◌, ◌-◌, ◌*◌, ◌^◌, ◌<◌, ◌≤◌, ℤ, pos, List, [], ◌∷◌, ◌++◌, length, take, drop, FitsSigned, refl, ap, ap₂, sym, ◌∙◌, subst, ⊎_elim, arith, append_assoc, length-drop}
use Rattle.std.specs.Int.{w16}
use Rattle.std.specs.List.{flat_map, range_with_len}
use Rattle.std.proofs.lemmas.Int.{ints}
use Rattle.std.proofs.lemmas.Bool.{cases_lt, cases_eq}
use Rattle.std.proofs.lemmas.Bool.Decides.{nat_tests}
use Rattle.std.proofs.lemmas.List.{take-append-drop, take_rest, length-take-le, append_cancel_right}
use Rattle.std.proofs.lemmas.List.Elements.{All-take, All-drop}
use Rattle.byteorder.specs.Endian.{big_number}
use Rattle.clip_regions.specs.Regions.{contains}
use Rattle.store_model.specs.declared.fault.StoreFault.TheVariants.{CutShort, BadBlock, OutOfRange}
use Rattle.store_model.specs.Sizes.{block_count, block_column, block_row}
use Rattle.store_model.specs.Blocks.{plain_bytes, IsWordBlock}
use Rattle.store_model.specs.Format.{Head, IsSoundHead, entry}
use Rattle.store_model.specs.Store.{Levels, region_of, IsBlockOf, AreBlocks, IsLevel, IsFront}
use Rattle.store_model.specs.Faults.{IsCutEntry, HasBlockFault, HasValueOut, AtBlock, OpensWithBlock}
use Rattle.store_model.proofs.Stores.{flat_range_more}
use Rattle.store_laws.specs.Laws.{FrontOfLike}
use Rattle.store_reader.proofs.PlainLemmas.{flat_like}
use Rattle.store_reader.proofs.EntryLemmas.{entry_at}
use Rattle.store_verdicts.specs.Laws.{HasSomeStoreFault}
use Rattle.store_verdicts.proofs.Codes.{put, put_here, put_there}
use Rattle.store_verdicts.proofs.Pieces.{has_cells, level_of, level_at, level_none, level_fits}
use Rattle.store_verdicts.proofs.Blocks.{AreBytes, small_at, IsHeld, Decoded, IsBad, IsOut, decode_verdict}

-- ---- the bytes of one block behind their number

record Room (rest : List ℕ) : Type 0 where
  two : 2 ≤ length rest
  room : big_number 2 rest ≤ length rest - 2
  short : big_number 2 rest < 2 ^ 16

cut_or_room : (rest : List ℕ) → AreBytes rest → IsCutEntry rest ⊎ Room rest
cut_or_room [] all = inl (inl (omega arith))
cut_or_room (high ∷ []) all = inl (inl (omega arith))
cut_or_room (high ∷ low ∷ after) all =
    ⊎_elim
    (λ (few : length after < 256 * high + low). inl (inr (high, low, after, refl, few)))
    (λ (enough : 256 * high + low ≤ length after).
    let a = small_at (high ∷ low ∷ after) all 0 in
    let b = small_at (high ∷ low ∷ after) all 1 in
    inr (record { two = omega arith; room = omega arith; short = omega arith }))
    (cases_lt (length after) (256 * high + low))

record Entry (bytes : List ℕ) (at : ℕ) : Type 0 where
  content : List ℕ
  next : ℕ
  ends : next ≤ length bytes
  short : length content < 2 ^ 16
  spelled : drop at bytes ≡ entry content ++ drop next bytes
  all : AreBytes content

entry_verdict : (bytes : List ℕ) (at : ℕ) → AreBytes bytes → at ≤ length bytes → IsCutEntry (drop at bytes) ⊎ Entry bytes at
entry_verdict bytes at all inside =
    let rest = drop at bytes in
    let whole = take (length bytes - at) rest in
    let same : whole ≡ rest = take_rest bytes at in
    let rest_all : AreBytes rest = All-drop (λ b. b < 256) at bytes all in
    ⊎_elim
    (λ (cut : IsCutEntry rest). inl cut)
    (λ (r : Room rest).
    let n = big_number 2 whole in
    let number : n ≡ big_number 2 rest = ap (big_number 2) same in
    let content = take (2 + n - 2) (drop 2 whole) in
    let enough = r.room in
    let two = r.two in
    let short = r.short in
    let long : length whole ≡ length rest = ap length same in
    let size : length content ≡ 2 + n - 2 = length-take-le (2 + n - 2) (drop 2 whole) (omega (arith, length-drop 2 whole)) in
    inr (record {
      content = content;
      next = at + (2 + length content);
      ends = omega (arith, length-drop at bytes);
      short = omega arith;
      spelled = entry_at bytes content at n (small_at bytes all) inside (omega arith) (omega arith) refl refl;
      all =
          All-take (λ b. b < 256) (2 + n - 2) (drop 2 whole)
          (All-drop (λ b. b < 256) 2 whole (subst AreBytes (sym same) rest_all));
    }))
    (cut_or_room rest rest_all)

-- ---- some blocks of a level

-- the bytes of k blocks stand from start on, and stand for these heights, whatever the heights outside the blocks are
record Blocks (head : Head) (old : Levels) (level : ℕ) (bytes : List ℕ) (start k : ℕ) : Type 0 where
  at : ℕ
  ends : at ≤ length bytes
  content : ℕ → List ℕ
  heights : ℕ → ℤ → ℤ → ℤ
  fits : (m : ℕ) (i j : ℤ) → FitsSigned w16 (heights m i j)
  short : (m : ℕ) → m < k → length (content m) < 2 ^ 16
  held : (m : ℕ) → m < k → (other : ℤ → ℤ → ℤ) → ((i j : ℤ) → contains (region_of head level m) i j ≡ true → heights m i j ≡ other i j) → IsHeld (eqb (level + 1) head.levels) (old (level + 1)) other head.step (region_of head level m) (content m)
  spelled : drop start bytes ≡ flat_map (λ m. entry (content m)) (range_with_len 0 k) ++ drop at bytes

no_blocks : (head : Head) (old : Levels) (level : ℕ) (bytes : List ℕ) (start : ℕ) → start ≤ length bytes → Blocks head old level bytes start 0
no_blocks head old level bytes start begun = record {
  at = start;
  ends = begun;
  content = λ m. [];
  heights = λ m i j. pos 0;
  fits = λ m i j. omega (arith, ints);
  short = λ m h. absurd (omega arith);
  held = λ m h. absurd (omega arith);
  spelled = refl;
}

-- what holds of the one that is put, and of the others
put_cases : {A : Type 0} (P : A → Type 0) (s a : ℕ) (x : A) (f : ℕ → A) → (a ≡ s → P x) → ((a ≡ s → ⊥) → P (f a)) → P (put s x f a)
put_cases P s a x f here there =
    ⊎_elim
    (λ (e : a ≡ s). subst (λ (n : ℕ). P (put s x f n)) (sym e) (subst P (sym (put_here s x f)) (here e)))
    (λ (other : a ≡ s → ⊥). subst P (sym (put_there s x f a other)) (there other))
    (cases_eq a s)

one_block : (head : Head) (old : Levels) (level : ℕ) (bytes : List ℕ) (start k : ℕ) (b : Blocks head old level bytes start k) (e : Entry bytes b.at) → Decoded (eqb (level + 1) head.levels) (old (level + 1)) head.step (region_of head level k) e.content → Blocks head old level bytes start (k + 1)
one_block head old level bytes start k b e d =
    let content = put k e.content b.content in
    let heights = put k d.heights b.heights in
    let here : content k ≡ e.content = put_here k e.content b.content in
    let there : (m : ℕ) → (m ≡ k → ⊥) → content m ≡ b.content m = λ m. put_there k e.content b.content m in
    let before : flat_map (λ m. entry (b.content m)) (range_with_len 0 k) ≡ flat_map (λ m. entry (content m)) (range_with_len 0 k) =
    flat_like (λ m. entry (b.content m)) (λ m. entry (content m)) 0 k (λ m l h. ap entry (sym (there m (λ q. omega arith)))) in
    record {
      at = e.next;
      ends = e.ends;
      content = content;
      heights = heights;
      fits = λ m i j.
          put_cases (λ (f : ℤ → ℤ → ℤ). FitsSigned w16 (f i j)) k m d.heights b.heights (λ q. d.fits i j) (λ q. b.fits m i j);
      short = λ m h. put_cases (λ (c : List ℕ). length c < 2 ^ 16) k m e.content b.content (λ q. e.short) (λ q. b.short m (omega (arith, q)));
      held = λ m h other.
          ⊎_elim
          (λ (q : m ≡ k).
          λ same.
          subst (λ (n : ℕ). IsHeld (eqb (level + 1) head.levels) (old (level + 1)) other head.step (region_of head level n) (content n)) (sym q)
          (subst (λ (c : List ℕ). IsHeld (eqb (level + 1) head.levels) (old (level + 1)) other head.step (region_of head level k) c) (sym here)
          (d.held other
          (λ i j inside.
          ap (λ (f : ℤ → ℤ → ℤ). f i j) (sym (put_here k d.heights b.heights))
          ∙ ap (λ (n : ℕ). heights n i j) (sym q)
          ∙ same i j (ap (λ (n : ℕ). contains (region_of head level n) i j) q ∙ inside)))))
          (λ (q : m ≡ k → ⊥).
          λ same.
          subst (λ (c : List ℕ). IsHeld (eqb (level + 1) head.levels) (old (level + 1)) other head.step (region_of head level m) c) (sym (there m q))
          (b.held m (omega (arith, q)) other
          (λ i j inside. ap (λ (f : ℤ → ℤ → ℤ). f i j) (sym (put_there k d.heights b.heights m q)) ∙ same i j inside)))
          (cases_eq m k);
      spelled =
          b.spelled
          ∙ ap₂ (λ (xs ys : List ℕ). xs ++ ys) before (e.spelled ∙ ap (λ (c : List ℕ). entry c ++ drop e.next bytes) (sym here))
          ∙ sym (append_assoc (flat_map (λ m. entry (content m)) (range_with_len 0 k)) (entry (content k)) (drop e.next bytes))
          ∙ ap (λ (xs : List ℕ). xs ++ drop e.next bytes) (sym (flat_range_more (λ m. entry (content m)) k));
    }

block_of_held : (t : Bool) (head : Head) (all : Levels) (level m : ℕ) (coarser heights : ℤ → ℤ → ℤ) (bytes : List ℕ) → all level ≡ heights → all (level + 1) ≡ coarser → IsHeld t coarser heights head.step (region_of head level m) bytes → IsBlockOf t head all level m bytes
block_of_held true head all level m coarser heights bytes here next h = h ∙ ap (λ (f : ℤ → ℤ → ℤ). plain_bytes f (region_of head level m)) (sym here)
block_of_held false head all level m coarser heights bytes here next h =
    subst (λ (f : ℤ → ℤ → ℤ). IsWordBlock (all (level + 1)) f head.step (region_of head level m) bytes) (sym here)
    (subst (λ (c : ℤ → ℤ → ℤ). IsWordBlock c heights head.step (region_of head level m) bytes) (sym next) h)

-- the bytes up to an offset are those up to an earlier one and what stands between
between_to : (bytes between : List ℕ) (start at : ℕ) → drop start bytes ≡ between ++ drop at bytes → take at bytes ≡ take start bytes ++ between
between_to bytes between start at spelled =
    append_cancel_right (take at bytes) (take start bytes ++ between) (drop at bytes)
    (take-append-drop at bytes
    ∙ sym (take-append-drop start bytes)
    ∙ ap (λ (xs : List ℕ). take start bytes ++ xs) spelled
    ∙ sym (append_assoc (take start bytes) between (drop at bytes)))

-- the n coarsest levels stand before an offset
pub record Reached (head : Head) (n : ℕ) (bytes : List ℕ) : Type 0 where
  pub heights : Levels
  pub at : ℕ
  pub ends : at ≤ length bytes
  pub front : IsFront head heights n (take at bytes)

module _ (like : FrontOfLike) (head : Head) (sound : IsSoundHead head) (old : Levels) (level : ℕ) (bytes : List ℕ) (start : ℕ) (bytes_all : AreBytes bytes) (below : level < head.levels) (begun : start ≤ length bytes) (front : IsFront head old (head.levels - suc level) (take start bytes)) where
  grown : (ℤ → ℤ → ℤ) → Levels
  grown f = put level f old

  grown_front : (f : ℤ → ℤ → ℤ) → IsFront head (grown f) (head.levels - suc level) (take start bytes)
  unfolding grown
  grown_front f =
      like head old (grown f) (head.levels - suc level) (take start bytes) (omega arith)
      (λ m l h i j. ap (λ (g : ℤ → ℤ → ℤ). g i j) (sym (put_there level f old m (λ e. omega arith)))) front

  grown_next : (f : ℤ → ℤ → ℤ) → grown f (level + 1) ≡ old (level + 1)
  unfolding grown
  grown_next f = put_there level f old (level + 1) (λ e. omega arith)

  grown_here : (f : ℤ → ℤ → ℤ) → grown f level ≡ f
  unfolding grown
  grown_here f = put_here level f old

  are_blocks : (k : ℕ) (b : Blocks head old level bytes start k) → AreBlocks head (grown (level_of head level b.heights)) level k (flat_map (λ m. entry (b.content m)) (range_with_len 0 k))
  are_blocks k b =
      let f = level_of head level b.heights in
      record {
        content = b.content;
        short = b.short;
        blocks = λ m h.
            block_of_held (eqb (level + 1) head.levels) head (grown f) level m (old (level + 1)) f (b.content m) (grown_here f) (grown_next f)
            (b.held m h f (λ i j inside. level_at head level m b.heights i j inside));
        spelled = refl;
      }

  at_block : (k : ℕ) (P : Levels → List ℕ → Type 0) (b : Blocks head old level bytes start k) → k < block_count head.width head.height level → P (grown (level_of head level b.heights)) (drop b.at bytes) → AtBlock head level k bytes P
  at_block k P b inside follows =
      let f = level_of head level b.heights in
      let blocks = flat_map (λ m. entry (b.content m)) (range_with_len 0 k) in
      record {
        sound = sound;
        level_below = below;
        block_below = inside;
        heights = grown f;
        before = take start bytes;
        blocks = blocks;
        rest = drop b.at bytes;
        front = grown_front f;
        done = are_blocks k b;
        spelled = sym (take-append-drop start bytes) ∙ ap (λ (xs : List ℕ). take start bytes ++ xs) b.spelled ∙ sym (append_assoc (take start bytes) blocks (drop b.at bytes));
        follows = follows;
      }

  cut_here : (k : ℕ) (b : Blocks head old level bytes start k) → k < block_count head.width head.height level → IsCutEntry (drop b.at bytes) → HasSomeStoreFault bytes
  cut_here k b inside cut = record {
    fault = CutShort (length bytes);
    first = (refl, inr (record { head = head; level = level; k = k; at = at_block k (λ heights rest. IsCutEntry rest) b inside cut }));
  }

  bad_here : (k : ℕ) (b : Blocks head old level bytes start k) (e : Entry bytes b.at) → k < block_count head.width head.height level → IsBad (eqb (level + 1) head.levels) (region_of head level k) e.content → HasSomeStoreFault bytes
  bad_here k b e inside bad = record {
    fault = BadBlock level (block_column head.width level k) (block_row head.width level k) bad.fault;
    first = record {
      head = head;
      k = k;
      column = refl;
      row = refl;
      at = at_block k (λ heights rest. OpensWithBlock rest (λ content. HasBlockFault (eqb (level + 1) head.levels) (region_of head level k) content bad.fault)) b inside
          (record { content = e.content; after = drop e.next bytes; short = e.short; spelled = e.spelled; follows = bad.has });
    };
  }

  out_here : (k : ℕ) (b : Blocks head old level bytes start k) (e : Entry bytes b.at) → k < block_count head.width head.height level → IsOut (eqb (level + 1) head.levels) (old (level + 1)) head.step (region_of head level k) e.content → HasSomeStoreFault bytes
  out_here k b e inside o =
      let f = level_of head level b.heights in
      let words = o.words in
      let finer : level + 1 < head.levels = grind (arith, nat_tests) in
      record {
        fault = OutOfRange level o.i o.j o.value;
        first = record {
          head = head;
          k = k;
          words = finer;
          at = at_block k (λ heights rest. OpensWithBlock rest (λ content. HasValueOut (heights (level + 1)) head.step (region_of head level k) content (pos o.i) (pos o.j) o.value)) b inside
              (record {
                content = e.content;
                after = drop e.next bytes;
                short = e.short;
                spelled = e.spelled;
                follows = subst (λ (c : ℤ → ℤ → ℤ). HasValueOut c head.step (region_of head level k) e.content (pos o.i) (pos o.j) o.value) (sym (grown_next f)) o.out;
              });
        };
      }

  blocks_verdict : (k : ℕ) → k ≤ block_count head.width head.height level → Blocks head old level bytes start k ⊎ HasSomeStoreFault bytes
  blocks_verdict zero h = inl (no_blocks head old level bytes start begun)
  blocks_verdict (suc k) h =
      let inside : k < block_count head.width head.height level = omega arith in
      let next : k + 1 ≡ suc k = omega arith in
      let plain = eqb (level + 1) head.levels in
      ⊎_elim
      (λ (b : Blocks head old level bytes start k).
      ⊎_elim
      (λ (cut : IsCutEntry (drop b.at bytes)). inr (cut_here k b inside cut))
      (λ (e : Entry bytes b.at).
      ⊎_elim
      (λ (d : Decoded plain (old (level + 1)) head.step (region_of head level k) e.content).
      inl (subst (λ (n : ℕ). Blocks head old level bytes start n) next (one_block head old level bytes start k b e d)))
      (λ (u : IsBad plain (region_of head level k) e.content ⊎ IsOut plain (old (level + 1)) head.step (region_of head level k) e.content).
      ⊎_elim (λ bad. inr (bad_here k b e inside bad)) (λ out. inr (out_here k b e inside out)) u)
      (decode_verdict plain (old (level + 1)) head.step (region_of head level k) e.content (has_cells head.width head.height level k inside) e.all))
      (entry_verdict bytes b.at bytes_all b.ends))
      (λ (f : HasSomeStoreFault bytes). inr f)
      (blocks_verdict k (omega arith))

  whole_level : Blocks head old level bytes start (block_count head.width head.height level) → Reached head (head.levels - level) bytes
  whole_level b =
      let f = level_of head level b.heights in
      let blocks = flat_map (λ m. entry (b.content m)) (range_with_len 0 (block_count head.width head.height level)) in
      let here = grown_here f in
      let whole : IsLevel head (grown f) level blocks = record {
        all = are_blocks (block_count head.width head.height level) b;
        short = λ i j. subst (FitsSigned w16) (ap (λ (g : ℤ → ℤ → ℤ). g i j) (sym here)) (level_fits head level b.heights b.fits i j);
        outside = λ i j e. ap (λ (g : ℤ → ℤ → ℤ). g i j) here ∙ level_none head level b.heights i j e;
      } in
      let count : head.levels - level ≡ suc (head.levels - suc level) = omega arith in
      let this : head.levels - suc (head.levels - suc level) ≡ level = omega arith in
      record {
        heights = grown f;
        at = b.at;
        ends = b.ends;
        front =
            subst (λ (n : ℕ). IsFront head (grown f) n (take b.at bytes)) (sym count)
            (take start bytes, blocks, grown_front f, subst (λ (l : ℕ). IsLevel head (grown f) l blocks) (sym this) whole, between_to bytes blocks start b.at b.spelled);
      }

  pub level_verdict : Reached head (head.levels - level) bytes ⊎ HasSomeStoreFault bytes
  level_verdict =
      ⊎_elim
      (λ (b : Blocks head old level bytes start (block_count head.width head.height level)). inl (whole_level b))
      (λ (f : HasSomeStoreFault bytes). inr f)
      (blocks_verdict (block_count head.width head.height level) (omega arith))

-- ---- the levels

pub levels_verdict : FrontOfLike → (head : Head) → IsSoundHead head → (bytes : List ℕ) → AreBytes bytes → Reached head 0 bytes → (n : ℕ) → n ≤ head.levels → Reached head n bytes ⊎ HasSomeStoreFault bytes
levels_verdict like head sound bytes all first zero h = inl first
levels_verdict like head sound bytes all first (suc n) h =
    let level = head.levels - suc n in
    let before : n ≡ head.levels - suc level = omega arith in
    let next : head.levels - level ≡ suc n = omega arith in
    ⊎_elim
    (λ (r : Reached head n bytes).
    ⊎_elim
    (λ (s : Reached head (head.levels - level) bytes). inl (subst (λ (m : ℕ). Reached head m bytes) next s))
    (λ (f : HasSomeStoreFault bytes). inr f)
    (level_verdict like head sound r.heights level bytes r.at all (omega arith) r.ends (subst (λ (m : ℕ). IsFront head r.heights m (take r.at bytes)) before r.front)))
    (λ (f : HasSomeStoreFault bytes). inr f)
    (levels_verdict like head sound bytes all first n (omega arith))
