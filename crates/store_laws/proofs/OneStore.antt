-- Bytes are one store, or have one first fault.
use Rattle.std.proofs.Common.{◌≡◌, ◌≢◌, ◌⊎◌, inl, inr, Bool, true, false, eqb, ℕ, zero, suc, ◌+◌, ◌-◌, ◌<◌, ◌≤◌, ℤ, pos, List, [], ◌++◌, length, refl, ap, sym, ◌∙◌, subst, ⊎_elim, arith, append_assoc, append-nil, length-append}
use Rattle.std.proofs.lemmas.Bool.{cases_order}
use Rattle.std.proofs.lemmas.Bool.Decides.{nat_tests}
use Rattle.clip_regions.specs.Regions.{area}
use Rattle.terrain_model.specs.Terrain.{Terrain, level_height}
use Rattle.rice_residuals.specs.declared.fault.BlockFault.{BlockFault}
use Rattle.store_model.specs.declared.fault.StoreFault.{StoreFault}
use Rattle.store_model.specs.declared.fault.StoreFault.TheVariants.{BadMagic, BadHeader, CutShort, BadBlock, OutOfRange, Excess, NoMemory}
use Rattle.store_model.specs.Sizes.{block_count}
use Rattle.store_model.specs.Format.{Head, IsSoundHead, head_bytes}
use Rattle.store_model.specs.Store.{Levels, region_of, IsBlockOf, IsFront, IsStore}
use Rattle.store_model.specs.Faults.{BeginsAs, IsCutHead, OpensWithHead, IsBadField, IsCutEntry, HasBlockFault, AtBlock, OpensWithBlock, HasValueOut, HasStoreFault}
use Rattle.store_laws.specs.Places.{HasFaultAt, IsPlace}
use Rattle.store_laws.proofs.Entries.{entry_apart, cut_no_entry}
use Rattle.store_laws.proofs.Heads.{spelled_of_open, spelled_of_sound, head_apart, no_bad_magic, no_cut_head, no_bad_field, one_bad_field}
use Rattle.store_laws.proofs.Blocks.{OneList, WordHasNoFault, OneWordFault, coding_no_fault, word_block_no_out, one_out, plain_length, plain_no_fault, one_block_fault}
use Rattle.store_laws.proofs.PlacesOf.{BlockAhead, AgreeFrom, front_apart, same_place, ahead_in_level, ahead_in_front}

-- ---- faults by where they are
abbrev Early : List ℕ → StoreFault → Type 0
Early bytes BadMagic = (¬ BeginsAs 1 bytes) × (¬ BeginsAs 2 bytes)
Early bytes (BadHeader field) = (head : Head) × (rest : List ℕ) × OpensWithHead head bytes rest × IsBadField head field
Early bytes (CutShort offset) = (offset ≡ length bytes) × IsCutHead bytes
Early bytes (BadBlock level bx by fault) = ⊥
Early bytes (OutOfRange level i j value) = ⊥
Early bytes (Excess offset) = ⊥
Early bytes NoMemory = ⊥

record AtPlace (head : Head) (level k : ℕ) (bytes : List ℕ) (fault : StoreFault) : Type 0 where
  heights : Levels
  rest : List ℕ
  below : level < head.levels
  block_below : k < block_count head.width head.height level
  place : IsPlace head heights level k bytes rest
  follows : HasFaultAt head (heights (level + 1)) level k bytes rest fault

record AtEnd (head : Head) (bytes : List ℕ) (fault : StoreFault) : Type 0 where
  heights : Levels
  before : List ℕ
  rest : List ℕ
  front : IsFront head heights head.levels before
  spelled : bytes ≡ before ++ rest
  some : rest ≢ []
  fault_is : fault ≡ Excess (length before)

abbrev Late : Head → List ℕ → StoreFault → Type 0
Late head bytes fault = ((level k : ℕ) × AtPlace head level k bytes fault) ⊎ AtEnd head bytes fault

record IsLate (bytes : List ℕ) (fault : StoreFault) : Type 0 where
  head : Head
  sound : IsSoundHead head
  late : Late head bytes fault

place_of : (head : Head) (level k : ℕ) (bytes : List ℕ) (P : Levels → List ℕ → Type 0) (fault : StoreFault) (at : AtBlock head level k bytes P) → HasFaultAt head (at.heights (level + 1)) level k bytes at.rest fault → IsLate bytes fault
place_of head level k bytes P fault at follows = record {
  head = head;
  sound = at.sound;
  late =
      inl (
        level,
        k,
        record {
          heights = at.heights;
          rest = at.rest;
          below = at.level_below;
          block_below = at.block_below;
          place = record { before = at.before; blocks = at.blocks; front = at.front; done = at.done; spelled = at.spelled ∙ append_assoc at.before at.blocks at.rest };
          follows = follows;
        },
      );
}

classify : (bytes : List ℕ) (fault : StoreFault) → HasStoreFault bytes fault → Early bytes fault ⊎ IsLate bytes fault
classify bytes BadMagic p = inl p
classify bytes (BadHeader field) p = inl p
classify bytes (CutShort offset) p =
    ⊎_elim
    (λ q. inl (p.0, q))
    (λ q. inr (place_of q.head q.level q.k bytes (λ heights rest. IsCutEntry rest) (CutShort offset) q.at (p.0, q.at.follows)))
    p.1
classify bytes (BadBlock level bx by fault) p =
    inr (place_of p.head level p.k bytes (λ heights rest. OpensWithBlock rest (λ content. HasBlockFault (eqb (level + 1) p.head.levels) (region_of p.head level p.k) content fault)) (BadBlock level bx by fault) p.at (refl, p.column, p.row, p.at.follows))
classify bytes (OutOfRange level i j value) p =
    inr (place_of p.head level p.k bytes (λ heights rest. OpensWithBlock rest (λ content. HasValueOut (heights (level + 1)) p.head.step (region_of p.head level p.k) content (pos i) (pos j) value)) (OutOfRange level i j value) p.at (refl, p.words, p.at.follows))
classify bytes (Excess offset) p =
    inr (record {
      head = p.head;
      sound = p.sound;
      late = inr (record { heights = p.heights; before = p.before; rest = p.rest; front = p.front; spelled = p.spelled; some = p.some; fault_is = ap Excess p.place });
    })
classify bytes NoMemory p = absurd p

-- ---- the header
front_begins : (head : Head) (heights : Levels) (n : ℕ) (bytes : List ℕ) → IsFront head heights n bytes → (rest : List ℕ) × (bytes ≡ head_bytes head ++ rest)
front_begins head heights zero bytes x = ([], x ∙ sym (append-nil (head_bytes head)))
front_begins head heights (suc n) bytes x =
    let before = front_begins head heights n x.0 x.2 in
    (before.0 ++ x.1, x.4 ∙ ap (λ (xs : List ℕ). xs ++ x.1) before.1 ∙ append_assoc (head_bytes head) before.0 x.1)

begins_more : (head : Head) (heights : Levels) (n : ℕ) (bytes before rest : List ℕ) → IsFront head heights n before → bytes ≡ before ++ rest → (more : List ℕ) × (bytes ≡ head_bytes head ++ more)
begins_more head heights n bytes before rest x e =
    let b = front_begins head heights n before x in
    (b.0 ++ rest, e ∙ ap (λ (xs : List ℕ). xs ++ rest) b.1 ∙ append_assoc (head_bytes head) b.0 rest)

late_begins : (head : Head) (bytes : List ℕ) (fault : StoreFault) → Late head bytes fault → (more : List ℕ) × (bytes ≡ head_bytes head ++ more)
late_begins head bytes fault late =
    ⊎_elim
    (λ (p : (level k : ℕ) × AtPlace head level k bytes fault).
    begins_more head p.2.heights (head.levels - suc p.0) bytes p.2.place.before (p.2.place.blocks ++ p.2.rest) p.2.place.front p.2.place.spelled)
    (λ (p : AtEnd head bytes fault). begins_more head p.heights head.levels bytes p.before p.rest p.front p.spelled)
    late

early_sound : (head : Head) (bytes rest : List ℕ) (fault : StoreFault) → IsSoundHead head → bytes ≡ head_bytes head ++ rest → Early bytes fault → ⊥
early_sound head bytes rest BadMagic sound e p = no_bad_magic head bytes rest (spelled_of_sound head sound) e p.0 p.1
early_sound head bytes rest (BadHeader field) sound e p =
    let same = head_apart p.0 head p.1 rest (spelled_of_open p.0 bytes p.1 p.2) (spelled_of_sound head sound) (sym p.2.spelled ∙ e) in
    no_bad_field head field sound (subst (λ (h : Head). IsBadField h field) same.0 p.3)
early_sound head bytes rest (CutShort offset) sound e p = no_cut_head head bytes rest (spelled_of_sound head sound) e p.1
early_sound head bytes rest (BadBlock level bx by fault) sound e p = p
early_sound head bytes rest (OutOfRange level i j value) sound e p = p
early_sound head bytes rest (Excess offset) sound e p = p
early_sound head bytes rest NoMemory sound e p = p

magic_cut : (bytes : List ℕ) → (¬ BeginsAs 1 bytes) → (¬ BeginsAs 2 bytes) → IsCutHead bytes → ⊥
magic_cut bytes one two cut =
    ⊎_elim
    (λ (v : cut.version ≡ 1). one (subst (λ (n : ℕ). BeginsAs n bytes) v cut.begins))
    (λ (v : cut.version ≡ 2). two (subst (λ (n : ℕ). BeginsAs n bytes) v cut.begins))
    cut.known

early_same : (bytes : List ℕ) (fault other : StoreFault) → Early bytes fault → Early bytes other → fault ≡ other
early_same bytes BadMagic BadMagic p q = refl
early_same bytes BadMagic (BadHeader field) p q = absurd (no_bad_magic q.0 bytes q.1 (spelled_of_open q.0 bytes q.1 q.2) q.2.spelled p.0 p.1)
early_same bytes BadMagic (CutShort offset) p q = absurd (magic_cut bytes p.0 p.1 q.1)
early_same bytes BadMagic (BadBlock level bx by fault) p q = absurd q
early_same bytes BadMagic (OutOfRange level i j value) p q = absurd q
early_same bytes BadMagic (Excess offset) p q = absurd q
early_same bytes BadMagic NoMemory p q = absurd q
early_same bytes (BadHeader field) BadMagic p q = absurd (no_bad_magic p.0 bytes p.1 (spelled_of_open p.0 bytes p.1 p.2) p.2.spelled q.0 q.1)
early_same bytes (BadHeader field) (BadHeader second) p q =
    let same = head_apart p.0 q.0 p.1 q.1 (spelled_of_open p.0 bytes p.1 p.2) (spelled_of_open q.0 bytes q.1 q.2) (sym p.2.spelled ∙ q.2.spelled) in
    ap BadHeader (one_bad_field q.0 field second (subst (λ (h : Head). IsBadField h field) same.0 p.3) q.3)
early_same bytes (BadHeader field) (CutShort offset) p q = absurd (no_cut_head p.0 bytes p.1 (spelled_of_open p.0 bytes p.1 p.2) p.2.spelled q.1)
early_same bytes (BadHeader field) (BadBlock level bx by fault) p q = absurd q
early_same bytes (BadHeader field) (OutOfRange level i j value) p q = absurd q
early_same bytes (BadHeader field) (Excess offset) p q = absurd q
early_same bytes (BadHeader field) NoMemory p q = absurd q
early_same bytes (CutShort offset) BadMagic p q = absurd (magic_cut bytes q.0 q.1 p.1)
early_same bytes (CutShort offset) (BadHeader field) p q = absurd (no_cut_head q.0 bytes q.1 (spelled_of_open q.0 bytes q.1 q.2) q.2.spelled p.1)
early_same bytes (CutShort offset) (CutShort second) p q = ap CutShort (p.0 ∙ sym q.0)
early_same bytes (CutShort offset) (BadBlock level bx by fault) p q = absurd q
early_same bytes (CutShort offset) (OutOfRange level i j value) p q = absurd q
early_same bytes (CutShort offset) (Excess second) p q = absurd q
early_same bytes (CutShort offset) NoMemory p q = absurd q
early_same bytes (BadBlock level bx by fault) other p q = absurd p
early_same bytes (OutOfRange level i j value) other p q = absurd p
early_same bytes (Excess offset) other p q = absurd p
early_same bytes NoMemory other p q = absurd p

-- ---- a block
no_top : (level : ℕ) (head : Head) → level + 1 < head.levels → eqb (level + 1) head.levels ≡ false
no_top level head h = grind (arith, nat_tests)

block_no_fault : WordHasNoFault → (top : Bool) (head : Head) (heights : Levels) (level k : ℕ) (bytes : List ℕ) (fault : BlockFault) → IsBlockOf top head heights level k bytes → HasBlockFault top (region_of head level k) bytes fault → ⊥
block_no_fault none true head heights level k bytes fault x bad =
    plain_no_fault (area (region_of head level k)) bytes fault (ap length x ∙ plain_length (heights level) (region_of head level k)) bad
block_no_fault none false head heights level k bytes fault x bad = coding_no_fault none x.code (region_of head level k) bytes fault x.coding bad

open_ahead : (head : Head) (other : Levels) (level k : ℕ) (rest : List ℕ) (P : List ℕ → Type 0) → OpensWithBlock rest P → (b : BlockAhead head other level k rest) → P b.content
open_ahead head other level k rest P o b =
    subst P ((entry_apart o.content b.content o.after b.after o.short b.short (sym o.spelled ∙ b.spelled)).0) o.follows

stopped : OneList → WordHasNoFault → (head : Head) (coarser : ℤ → ℤ → ℤ) (other : Levels) (level k : ℕ) (bytes rest : List ℕ) (fault : StoreFault) → (level + 1 < head.levels → coarser ≡ other (level + 1)) → HasFaultAt head coarser level k bytes rest fault → BlockAhead head other level k rest → ⊥
stopped one none head coarser other level k bytes rest BadMagic same p b = p
stopped one none head coarser other level k bytes rest (BadHeader field) same p b = p
stopped one none head coarser other level k bytes rest (CutShort offset) same p b = cut_no_entry b.content b.after rest b.short b.spelled p.1
stopped one none head coarser other level k bytes rest (BadBlock l bx by fault) same p b =
    block_no_fault none (eqb (level + 1) head.levels) head other level k b.content fault b.block
    (open_ahead head other level k rest (λ content. HasBlockFault (eqb (level + 1) head.levels) (region_of head level k) content fault) p.3 b)
stopped one none head coarser other level k bytes rest (OutOfRange l i j value) same p b =
    word_block_no_out one coarser (other (level + 1)) (other level) head.step (region_of head level k) b.content (pos i) (pos j) value (same p.1)
    (subst (λ (t : Bool). IsBlockOf t head other level k b.content) (no_top level head p.1) b.block)
    (open_ahead head other level k rest (λ content. HasValueOut coarser head.step (region_of head level k) content (pos i) (pos j) value) p.2 b)
stopped one none head coarser other level k bytes rest (Excess offset) same p b = p
stopped one none head coarser other level k bytes rest NoMemory same p b = p

two_opens : (rest : List ℕ) (P Q : List ℕ → Type 0) → OpensWithBlock rest P → (o : OpensWithBlock rest Q) → P o.content
two_opens rest P Q a b = subst P ((entry_apart a.content b.content a.after b.after a.short b.short (sym a.spelled ∙ b.spelled)).0) a.follows

bad_no_out : WordHasNoFault → (head : Head) (coarser : ℤ → ℤ → ℤ) (level k : ℕ) (rest : List ℕ) (fault : BlockFault) (i j value : ℤ) → level + 1 < head.levels → OpensWithBlock rest (λ content. HasBlockFault (eqb (level + 1) head.levels) (region_of head level k) content fault) → OpensWithBlock rest (λ content. HasValueOut coarser head.step (region_of head level k) content i j value) → ⊥
bad_no_out none head coarser level k rest fault i j value less a b =
    let region = region_of head level k in
    let bad = two_opens rest (λ content. HasBlockFault (eqb (level + 1) head.levels) region content fault) (λ content. HasValueOut coarser head.step region content i j value) a b in
    coding_no_fault none b.follows.code region b.content fault b.follows.coding
    (subst (λ (t : Bool). HasBlockFault t region b.content fault) (no_top level head less) bad)

pos_same : (a b : ℕ) → pos a ≡ pos b → a ≡ b
pos_same a b e = cc

place_same : OneList → WordHasNoFault → OneWordFault → (head : Head) (c d : ℤ → ℤ → ℤ) (level k : ℕ) (bytes rest : List ℕ) (fault other : StoreFault) → (level + 1 < head.levels → c ≡ d) → HasFaultAt head c level k bytes rest fault → HasFaultAt head d level k bytes rest other → fault ≡ other
place_same one none first head c d level k bytes rest BadMagic other same p q = absurd p
place_same one none first head c d level k bytes rest (BadHeader field) other same p q = absurd p
place_same one none first head c d level k bytes rest (CutShort x) BadMagic same p q = absurd q
place_same one none first head c d level k bytes rest (CutShort x) (BadHeader field) same p q = absurd q
place_same one none first head c d level k bytes rest (CutShort x) (CutShort y) same p q = ap CutShort (p.0 ∙ sym q.0)
place_same one none first head c d level k bytes rest (CutShort x) (BadBlock l bx by fault) same p q = absurd (cut_no_entry q.3.content q.3.after rest q.3.short q.3.spelled p.1)
place_same one none first head c d level k bytes rest (CutShort x) (OutOfRange l i j value) same p q = absurd (cut_no_entry q.2.content q.2.after rest q.2.short q.2.spelled p.1)
place_same one none first head c d level k bytes rest (CutShort x) (Excess y) same p q = absurd q
place_same one none first head c d level k bytes rest (CutShort x) NoMemory same p q = absurd q
place_same one none first head c d level k bytes rest (BadBlock l bx by fault) BadMagic same p q = absurd q
place_same one none first head c d level k bytes rest (BadBlock l bx by fault) (BadHeader field) same p q = absurd q
place_same one none first head c d level k bytes rest (BadBlock l bx by fault) (CutShort y) same p q = absurd (cut_no_entry p.3.content p.3.after rest p.3.short p.3.spelled q.1)
place_same one none first head c d level k bytes rest (BadBlock l bx by fault) (BadBlock m cx cy second) same p q =
    let top = eqb (level + 1) head.levels in
    let region = region_of head level k in
    let here = two_opens rest (λ content. HasBlockFault top region content fault) (λ content. HasBlockFault top region content second) p.3 q.3 in
    let faults = one_block_fault first top region q.3.content fault second here q.3.follows in
    λ t. BadBlock ((p.0 ∙ sym q.0) t) ((p.1 ∙ sym q.1) t) ((p.2 ∙ sym q.2) t) (faults t)
place_same one none first head c d level k bytes rest (BadBlock l bx by fault) (OutOfRange m i j value) same p q = absurd (bad_no_out none head d level k rest fault (pos i) (pos j) value q.1 p.3 q.2)
place_same one none first head c d level k bytes rest (BadBlock l bx by fault) (Excess y) same p q = absurd q
place_same one none first head c d level k bytes rest (BadBlock l bx by fault) NoMemory same p q = absurd q
place_same one none first head c d level k bytes rest (OutOfRange l i j value) BadMagic same p q = absurd q
place_same one none first head c d level k bytes rest (OutOfRange l i j value) (BadHeader field) same p q = absurd q
place_same one none first head c d level k bytes rest (OutOfRange l i j value) (CutShort y) same p q = absurd (cut_no_entry p.2.content p.2.after rest p.2.short p.2.spelled q.1)
place_same one none first head c d level k bytes rest (OutOfRange l i j value) (BadBlock m bx by fault) same p q = absurd (bad_no_out none head c level k rest fault (pos i) (pos j) value p.1 q.3 p.2)
place_same one none first head c d level k bytes rest (OutOfRange l i j value) (OutOfRange m a b second) same p q =
    let region = region_of head level k in
    let here = two_opens rest (λ content. HasValueOut c head.step region content (pos i) (pos j) value) (λ content. HasValueOut d head.step region content (pos a) (pos b) second) p.2 q.2 in
    let cells = one_out one c d head.step region q.2.content (pos i) (pos j) value (pos a) (pos b) second (same p.1) here q.2.follows in
    let columns = pos_same i a cells.0 in
    let rows = pos_same j b cells.1 in
    λ t. OutOfRange ((p.0 ∙ sym q.0) t) (columns t) (rows t) (cells.2 t)
place_same one none first head c d level k bytes rest (OutOfRange l i j value) (Excess y) same p q = absurd q
place_same one none first head c d level k bytes rest (OutOfRange l i j value) NoMemory same p q = absurd q
place_same one none first head c d level k bytes rest (Excess x) other same p q = absurd p
place_same one none first head c d level k bytes rest NoMemory other same p q = absurd p

-- ---- places
module _ (one : OneList) (none : WordHasNoFault) (first : OneWordFault) (head : Head) (bytes : List ℕ) where
  coarser_same : (heights other : Levels) (level : ℕ) → AgreeFrom head heights other (head.levels - suc level) → level + 1 < head.levels → heights (level + 1) ≡ other (level + 1)
  coarser_same heights other level agree less = agree (level + 1) (omega arith) less

  no_front : (fault : StoreFault) (level k n : ℕ) (other : Levels) (before rest : List ℕ) → AtPlace head level k bytes fault → n ≤ head.levels → head.levels ≤ level + n → IsFront head other n before → bytes ≡ before ++ rest → ⊥
  no_front fault level k n other before rest p few among front e =
      let ahead = ahead_in_front one head p.heights other level k n bytes p.rest before rest p.below p.block_below few among p.place front e in
      stopped one none head (p.heights (level + 1)) other level k bytes p.rest fault (coarser_same p.heights other level ahead.0) p.follows ahead.1

  no_later : (fault other : StoreFault) (level k m : ℕ) → k < m → AtPlace head level k bytes fault → AtPlace head level m bytes other → ⊥
  no_later fault other level k m l p q =
      let ahead = ahead_in_level one head p.heights q.heights level k m bytes p.rest q.rest l p.place q.place in
      stopped one none head (p.heights (level + 1)) q.heights level k bytes p.rest fault (coarser_same p.heights q.heights level ahead.0) p.follows ahead.1

  one_place : (fault other : StoreFault) (level k : ℕ) → AtPlace head level k bytes fault → AtPlace head level k bytes other → fault ≡ other
  one_place fault other level k p q =
      let same = same_place one head p.heights q.heights level k bytes p.rest q.rest p.place q.place in
      place_same one none first head (p.heights (level + 1)) (q.heights (level + 1)) level k bytes q.rest fault other (coarser_same p.heights q.heights level same.0)
      (subst (λ (r : List ℕ). HasFaultAt head (p.heights (level + 1)) level k bytes r fault) same.1 p.follows) q.follows

  one_level : (fault other : StoreFault) (level k m : ℕ) → AtPlace head level k bytes fault → AtPlace head level m bytes other → fault ≡ other
  one_level fault other level k m p q =
      ⊎_elim
      (λ (e : k ≡ m). one_place fault other level m (subst (λ (n : ℕ). AtPlace head level n bytes fault) e p) q)
      (λ (u : (k < m) ⊎ (m < k)).
      ⊎_elim
      (λ (l : k < m). absurd (no_later fault other level k m l p q))
      (λ (l : m < k). absurd (no_later other fault level m k l q p))
      u)
      (cases_order k m)

  behind : (fault other : StoreFault) (level k l m : ℕ) → l < level → AtPlace head level k bytes fault → AtPlace head l m bytes other → ⊥
  behind fault other level k l m less p q =
      let below = p.below in
      no_front fault level k (head.levels - suc l) q.heights q.place.before (q.place.blocks ++ q.rest) p (omega arith) (omega arith) q.place.front q.place.spelled

  places : (fault other : StoreFault) (level k l m : ℕ) → AtPlace head level k bytes fault → AtPlace head l m bytes other → fault ≡ other
  places fault other level k l m p q =
      ⊎_elim
      (λ (e : level ≡ l). one_level fault other l k m (subst (λ (n : ℕ). AtPlace head n k bytes fault) e p) q)
      (λ (u : (level < l) ⊎ (l < level)).
      ⊎_elim
      (λ (less : level < l). absurd (behind other fault l m level k less q p))
      (λ (less : l < level). absurd (behind fault other level k l m less p q))
      u)
      (cases_order level l)

  no_end : (fault other : StoreFault) (level k : ℕ) → AtPlace head level k bytes fault → AtEnd head bytes other → ⊥
  no_end fault other level k p q =
      no_front fault level k head.levels q.heights q.before q.rest p (omega arith) (omega arith) q.front q.spelled

  ends : (fault other : StoreFault) → AtEnd head bytes fault → AtEnd head bytes other → fault ≡ other
  ends fault other p q =
      let same = front_apart one head p.heights q.heights head.levels p.before q.before p.rest q.rest (omega arith) p.front q.front (sym p.spelled ∙ q.spelled) in
      let size = ap length p.spelled ∙ length-append p.before p.rest in
      let other_size = ap length q.spelled ∙ length-append q.before q.rest in
      let left = ap length same.1 in
      let place : length p.before ≡ length q.before = omega arith in
      p.fault_is ∙ ap Excess place ∙ sym q.fault_is

  late_same : (fault other : StoreFault) → Late head bytes fault → Late head bytes other → fault ≡ other
  late_same fault other p q =
      ⊎_elim
      (λ (a : (level k : ℕ) × AtPlace head level k bytes fault).
      ⊎_elim
      (λ (b : (level k : ℕ) × AtPlace head level k bytes other). places fault other a.0 a.1 b.0 b.1 a.2 b.2)
      (λ (b : AtEnd head bytes other). absurd (no_end fault other a.0 a.1 a.2 b))
      q)
      (λ (a : AtEnd head bytes fault).
      ⊎_elim
      (λ (b : (level k : ℕ) × AtPlace head level k bytes other). absurd (no_end other fault b.0 b.1 b.2 a))
      (λ (b : AtEnd head bytes other). ends fault other a b)
      q)
      p

same_heads_of : (head other : Head) (bytes r s : List ℕ) → IsSoundHead head → IsSoundHead other → bytes ≡ head_bytes head ++ r → bytes ≡ head_bytes other ++ s → head ≡ other
same_heads_of head other bytes r s a b e f = (head_apart head other r s (spelled_of_sound head a) (spelled_of_sound other b) (sym e ∙ f)).0

pub one_fault : OneList → WordHasNoFault → OneWordFault → (bytes : List ℕ) (fault other : StoreFault) → HasStoreFault bytes fault → HasStoreFault bytes other → fault ≡ other
one_fault one none first bytes fault other p q =
    ⊎_elim
    (λ (a : Early bytes fault).
    ⊎_elim
    (λ (b : Early bytes other). early_same bytes fault other a b)
    (λ (b : IsLate bytes other). (let begin = late_begins b.head bytes other b.late in absurd (early_sound b.head bytes begin.0 fault b.sound begin.1 a)))
    (classify bytes other q))
    (λ (a : IsLate bytes fault).
    let begin = late_begins a.head bytes fault a.late in
    ⊎_elim
    (λ (b : Early bytes other). absurd (early_sound a.head bytes begin.0 other a.sound begin.1 b))
    (λ (b : IsLate bytes other).
    let begins = late_begins b.head bytes other b.late in
    let same = same_heads_of a.head b.head bytes begin.0 begins.0 a.sound b.sound begin.1 begins.1 in
    late_same one none first b.head bytes fault other (subst (λ (h : Head). Late h bytes fault) same a.late) b.late)
    (classify bytes other q))
    (classify bytes fault p)

pub store_no_fault : OneList → WordHasNoFault → OneWordFault → (head : Head) (terrain : Terrain) (bytes : List ℕ) (fault : StoreFault) → IsStore head terrain bytes → HasStoreFault bytes fault → ⊥
store_no_fault one none first head terrain bytes fault store p =
    let begin = front_begins head (level_height terrain) head.levels bytes store.whole in
    let whole : bytes ≡ bytes ++ [] = sym (append-nil bytes) in
    ⊎_elim
    (λ (a : Early bytes fault). early_sound head bytes begin.0 fault store.sound begin.1 a)
    (λ (a : IsLate bytes fault).
    let begins = late_begins a.head bytes fault a.late in
    let same = same_heads_of a.head head bytes begins.0 begin.0 a.sound store.sound begins.1 begin.1 in
    ⊎_elim
    (λ (b : (level k : ℕ) × AtPlace head level k bytes fault).
    no_front one none first head bytes fault b.0 b.1 head.levels (level_height terrain) bytes [] b.2 (omega arith) (omega arith) store.whole whole)
    (λ (b : AtEnd head bytes fault).
    b.some (sym ((front_apart one head (level_height terrain) b.heights head.levels bytes b.before [] b.rest (omega arith) store.whole b.front (sym whole ∙ b.spelled)).1)))
    (subst (λ (h : Head). Late h bytes fault) same a.late))
    (classify bytes fault p)

pub same_store_heads : (head other : Head) (terrain second : Terrain) (bytes : List ℕ) → IsStore head terrain bytes → IsStore other second bytes → head ≡ other
same_store_heads head other terrain second bytes a b =
    let begin = front_begins head (level_height terrain) head.levels bytes a.whole in
    let begins = front_begins other (level_height second) other.levels bytes b.whole in
    same_heads_of head other bytes begin.0 begins.0 a.sound b.sound begin.1 begins.1
