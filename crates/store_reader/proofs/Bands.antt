-- Rows of a level's blocks, in tables of their cells.
use Rattle.std.proofs.Common.{◌≡◌, true, min, ℕ, ◌+◌, ◌-◌, ◌*◌, ◌/◌, ◌^◌, ◌<◌, ◌≤◌, ℤ, pos, List, ◌++◌, length, drop, get_or, replicate, Result, Ok, Err, IfOk, IfErr, refl, ap, sym, ◌∙◌, subst, arith, append_assoc, length-append}
use Rattle.std.proofs.lemmas.Int.{ints}
use Rattle.std.proofs.lemmas.Nat.{div_below, le-div, mul-add-lt}
use Rattle.std.proofs.lemmas.List.{length-replicate, get_or_append_left, get_or-append_right, get_or-drop}
use Rattle.std.proofs.Math.Nat.{mul-le-mul_right, mul-le-mul_left}
use mathlib.Core.Path.{ap₂}
use Rattle.clip_regions.specs.Regions.{contains}
use Rattle.store_model.specs.declared.fault.StoreFault.{StoreFault}
use Rattle.store_model.specs.Sizes.{cells_on, blocks_on, block_count, block_row}
use Rattle.store_model.specs.Format.{Head}
use Rattle.store_model.specs.Store.{region_of}
use Rattle.store_reader.specs.declared.blocks.Source.{Source}
use Rattle.store_reader.specs.declared.level.Reading.{Reading}
use Rattle.store_reader.specs.declared.level.Band.{Band}
use Rattle.store_reader.specs.Headers.{head_of}
use Rattle.store_reader.specs.Tables.{behind_cells}
use Rattle.store_reader.specs.Reading.{IsReading, behind, BlocksRead, HasLevelFault, cell_count, blocks_in, row_in, blocks_above, cells_above, IsBand, IsWhole, AreHalves, ReadsBand, FailsBand, EndsBand, ReadsBlocks, FailsFrom}
use Rattle.store_reader.proofs.PlaceLemmas.{rows_few}
use Rattle.store_reader.proofs.LevelLemmas.{height_like}
use Rattle.store_reader.proofs.BlockLists.{OfBlock, of_block, AreLike, blocks_joined}

pub some_blocks : (cells : ℕ) → 1 ≤ blocks_on cells
unfolding blocks_on
some_blocks cells = omega arith

-- ---- the cells above a row of blocks
module _ (head : Head) (level mid : ℕ) where
  abbrev W : ℕ
  W = cells_on head.width level

  abbrev H : ℕ
  H = cells_on head.height level

  abbrev across : ℕ
  across = blocks_on (cells_on head.width level)

  in_block : (m x y : ℕ) → contains (region_of head level m) (pos x) (pos y) ≡ true → (8 * (m / across) ≤ y) × (y < 8 * (m / across) + 8)
  unfolding block_row
  in_block m x y inside =
      let h = of_block head.width head.height level m (pos x) (pos y) inside in
      let n = h.north in
      let s = h.south in
      (omega (arith, ints), omega (arith, ints))

  before : (m x y : ℕ) → m < across * mid → x < W → y < H → contains (region_of head level m) (pos x) (pos y) ≡ true → y * W + x < min (8 * mid) H * W
  before m x y below column row inside =
      let turned : m < mid * across = omega arith in
      let above : m / across < mid = div_below m across mid (some_blocks (cells_on head.width level)) turned in
      let down = (in_block m x y inside).1 in
      let inside = mul-add-lt y W x (min (8 * mid) H) (omega arith) column in
      omega arith

  from_on : (m x y : ℕ) → across * mid ≤ m → contains (region_of head level m) (pos x) (pos y) ≡ true → min (8 * mid) H * W ≤ y * W + x
  from_on m x y far inside =
      let turned : mid * across ≤ m = omega arith in
      let above : mid ≤ m / across = le-div mid m across (some_blocks (cells_on head.width level)) turned in
      let down = (in_block m x y inside).0 in
      let rows : min (8 * mid) H * W ≤ y * W = mul-le-mul_right W (omega arith) in
      omega arith

  moved : (m : ℕ) (i j : ℤ) (x y : ℕ) → i ≡ pos x → j ≡ pos y → contains (region_of head level m) i j ≡ true → contains (region_of head level m) (pos x) (pos y) ≡ true
  moved m i j x y e f inside = ap₂ (contains (region_of head level m)) (sym e) (sym f) ∙ inside

  front_like : (first : ℕ) (new old : List ℤ) → ((p : ℕ) → p < min (8 * mid) H * W → get_or new p (pos 0) ≡ get_or old p (pos 0)) → AreLike head level first (across * mid) new old
  front_like first new old same m l h i j inside =
      height_like W H old new i j (λ x y e f a b. same (y * W + x) (before m x y h a b (moved m i j x y e f inside)))

  back_like : (k : ℕ) (new old : List ℤ) → ((p : ℕ) → min (8 * mid) H * W ≤ p → get_or new p (pos 0) ≡ get_or old p (pos 0)) → AreLike head level (across * mid) k new old
  back_like k new old same m l h i j inside =
      height_like W H old new i j (λ x y e f a b. same (y * W + x) (from_on m x y l (moved m i j x y e f inside)))

-- ---- the blocks of rows
pub row_from : (reading : Reading) (row k : ℕ) → blocks_above reading row ≤ k → row ≤ row_in reading k
unfolding block_row
row_from reading row k h =
    let across = blocks_on (cells_on reading.header.width reading.level) in
    let turned : row * across ≤ k = omega arith in
    le-div row k across (some_blocks (cells_on reading.header.width reading.level)) turned

row_below : (reading : Reading) (row k : ℕ) → k < blocks_above reading row → row_in reading k < row
unfolding block_row
row_below reading row k h =
    let across = blocks_on (cells_on reading.header.width reading.level) in
    let turned : k < row * across = omega arith in
    div_below k across row (some_blocks (cells_on reading.header.width reading.level)) turned

pub blocks_below : (reading : Reading) (row : ℕ) → row ≤ blocks_on (cells_on reading.header.height reading.level) → blocks_above reading row ≤ blocks_in reading
unfolding block_count
blocks_below reading row h = mul-le-mul_left (blocks_on (cells_on reading.header.width reading.level)) h

more_above : (reading : Reading) (a b : ℕ) → a ≤ b → cells_above reading a ≤ cells_above reading b
more_above reading a b h = mul-le-mul_right (cells_on reading.header.width reading.level) (omega arith)

-- the table of a band has the cells of each of its blocks
pub room_for : (reading : Reading) (band : Band) (n k : ℕ) → IsBand reading band n → k < blocks_above reading band.to → cells_above reading (row_in reading k + 1) ≤ cells_above reading band.from + n
room_for reading band n k whole below =
    let h = row_below reading band.to k below in
    let more = more_above reading (row_in reading k + 1) band.to (omega arith) in
    let room = whole.room in
    omega arith

pub few_of_band : (reading : Reading) (band : Band) (n : ℕ) → IsReading reading.header reading.level reading.source → IsBand reading band n → n ≤ 2 ^ 26
few_of_band reading band n sound whole =
    let head = sound.readable.sound in
    let few = rows_few reading.header.width reading.header.height reading.level band.to head.some_columns head.some_rows head.few_samples in
    let room = whole.room in
    omega arith

-- ---- a whole level
pub whole_room : (reading : Reading) → cells_above reading 0 + cell_count reading ≡ cells_above reading (blocks_on (cells_on reading.header.height reading.level))
unfolding blocks_on
whole_room reading =
    let wide = cells_on reading.header.width reading.level in
    let high = cells_on reading.header.height reading.level in
    let all : high ≡ min (8 * ((high - 1) / 8 + 1)) high = omega arith in
    let turned : min (8 * 0) high * wide + wide * high ≡ high * wide = grind arith in
    turned ∙ ap (λ (n : ℕ). n * wide) all

pub whole_of : (reading : Reading) (to start : ℕ) → to ≡ blocks_on (cells_on reading.header.height reading.level) → start ≤ length reading.bytes.now → IsWhole reading (record { from = 0; to = to; start = start }) start
unfolding block_count
whole_of reading to start e h =
    let some = some_blocks (cells_on reading.header.height reading.level) in
    record {
      all = record { some = omega arith; down = omega arith; begun = h; room = whole_room reading ∙ ap (cells_above reading) (sym e) };
      first = omega arith;
      above = grind arith;
      last = ap (λ (n : ℕ). blocks_on (cells_on reading.header.width reading.level) * n) e;
      begins = refl;
    }

pub whole_read : (reading : Reading) (band : Band) (start end : ℕ) (table : List ℤ) → IsWhole reading band start → ReadsBand reading band end table → ReadsBlocks reading start end table
whole_read reading band start end table w x =
    let head = head_of reading.header in
    let bytes = reading.bytes.now in
    subst (λ (n : ℕ). BlocksRead head reading.source reading.level 0 n bytes start end table) w.last
    (subst (λ (n : ℕ). BlocksRead head reading.source reading.level n (blocks_above reading band.to) bytes start end table) w.first
    (subst (λ (n : ℕ). BlocksRead head reading.source reading.level (blocks_above reading band.from) (blocks_above reading band.to) bytes n end table) w.begins
    (subst (λ (n : ℕ). BlocksRead head reading.source reading.level (blocks_above reading band.from) (blocks_above reading band.to) bytes band.start end (behind_cells n table)) w.above x)))

pub whole_fails : (reading : Reading) (band : Band) (start : ℕ) (fault : StoreFault) → IsWhole reading band start → FailsBand reading band fault → FailsFrom reading start fault
whole_fails reading band start fault w f =
    let head = head_of reading.header in
    let bytes = reading.bytes.now in
    subst (λ (n : ℕ). HasLevelFault head reading.source reading.level n bytes start fault) w.first
    (subst (λ (n : ℕ). HasLevelFault head reading.source reading.level (blocks_above reading band.from) bytes n fault) w.begins f)

-- ---- a band in two
pub front_fits : (reading : Reading) (band front back : Band) (n : ℕ) → IsBand reading band n → AreHalves reading band front back → cells_above reading front.to - cells_above reading front.from ≤ n
front_fits reading band front back n whole h =
    let ends = h.ends in
    let meets = h.meets in
    let more = h.more in
    let less = more_above reading front.to band.to (omega arith) in
    let same : cells_above reading front.from ≡ cells_above reading band.from = ap (cells_above reading) h.begins in
    let room = whole.room in
    omega arith

pub front_band : (reading : Reading) (band front back : Band) (n c : ℕ) → IsBand reading band n → AreHalves reading band front back → c ≡ cells_above reading front.to - cells_above reading front.from → IsBand reading front c
front_band reading band front back n c whole h e =
    let some = h.some in
    let more = h.more in
    let meets = h.meets in
    let ends = h.ends in
    let down = whole.down in
    let less = more_above reading front.from front.to (omega arith) in
    record {
      some = some;
      down = omega arith;
      begun = subst (λ (s : ℕ). s ≤ length reading.bytes.now) (sym h.start) whole.begun;
      room = omega arith;
    }

pub back_band : (reading : Reading) (band front back : Band) (n c : ℕ) → IsBand reading band (c + n) → AreHalves reading band front back → c ≡ cells_above reading front.to - cells_above reading front.from → IsBand reading back n
back_band reading band front back n c whole h e =
    let some = h.some in
    let less = more_above reading front.from front.to (omega arith) in
    let first : cells_above reading front.from ≡ cells_above reading band.from = ap (cells_above reading) h.begins in
    let mid : cells_above reading back.from ≡ cells_above reading front.to = ap (cells_above reading) h.meets in
    let last : cells_above reading back.to ≡ cells_above reading band.to = ap (cells_above reading) h.ends in
    let room = whole.room in
    record {
      some = h.more;
      down = subst (λ (r : ℕ). r ≤ blocks_on (cells_on reading.header.height reading.level)) (sym h.ends) whole.down;
      begun = h.inside;
      room = omega arith;
    }

-- ---- what was read of both
same_band : (band : Band) (from to start : ℕ) → from ≡ band.from → to ≡ band.to → start ≡ band.start → record { from = from; to = to; start = start } ≡ band
same_band band from to start p q r = λ i. record { from = p i; to = q i; start = r i }

module _ (reading : Reading) (front back : Band) (north : List ℤ) (at : ℕ) (some : front.from < front.to) (more : back.from < back.to) (meets : back.from ≡ front.to) (room : cells_above reading front.from + length north ≡ cells_above reading front.to) (next : back.start ≡ behind reading.bytes.now front.start (blocks_above reading front.to - blocks_above reading front.from)) (x : ReadsBand reading front at north) where
  abbrev first_table : List ℤ
  first_table = behind_cells (cells_above reading front.from) north

  size : length first_table ≡ cells_above reading front.to
  size = length-append (replicate (cells_above reading front.from) (pos 0)) north ∙ ap (λ (n : ℕ). n + length north) (length-replicate (cells_above reading front.from) (pos 0)) ∙ room

  begins_at : back.start ≡ at
  begins_at = next ∙ sym x.place

  ordered : (k : ℕ) → front.to ≤ k → blocks_above reading front.from ≤ blocks_above reading front.to
  ordered k h = mul-le-mul_left (blocks_on (cells_on reading.header.width reading.level)) (omega arith)

  in_front : (rest : List ℤ) → AreLike (head_of reading.header) reading.level (blocks_above reading front.from) (blocks_above reading front.to) (first_table ++ rest) first_table
  in_front rest = front_like (head_of reading.header) reading.level front.to (blocks_above reading front.from) (first_table ++ rest) first_table (λ p h. get_or_append_left first_table rest (pos 0) p (omega (arith, size)))

  both : (k next_at : ℕ) (rest old : List ℤ) → blocks_above reading front.to ≤ k → k ≤ blocks_in reading → ((p : ℕ) → cells_above reading front.to ≤ p → get_or rest (p - cells_above reading front.to) (pos 0) ≡ get_or old p (pos 0)) → BlocksRead (head_of reading.header) reading.source reading.level (blocks_above reading front.to) k reading.bytes.now at next_at old → BlocksRead (head_of reading.header) reading.source reading.level (blocks_above reading front.from) k reading.bytes.now front.start next_at (first_table ++ rest)
  both k next_at rest old far few same y =
      blocks_joined (head_of reading.header) reading.source reading.level (blocks_above reading front.from) (blocks_above reading front.to) k reading.bytes.now front.start at next_at first_table old (first_table ++ rest)
      (mul-le-mul_left (blocks_on (cells_on reading.header.width reading.level)) (omega arith)) far few (in_front rest)
      (back_like (head_of reading.header) reading.level front.to k (first_table ++ rest) old
      (λ p h. get_or-append_right first_table rest (cells_above reading front.to) p (pos 0) size h ∙ same p h))
      x y

  pub ends_joined : (south : List ℤ) (result : Result ℕ StoreFault) → back.to ≤ blocks_on (cells_on reading.header.height reading.level) → EndsBand reading back result south → EndsBand reading (record { from = front.from; to = back.to; start = front.start }) result (north ++ south)
  unfolding block_count
  ends_joined south (Ok end) down y =
      let zeros = replicate (cells_above reading front.to) (pos 0) in
      let there : BlocksRead (head_of reading.header) reading.source reading.level (blocks_above reading front.to) (blocks_above reading back.to) reading.bytes.now at end (behind_cells (cells_above reading front.to) south) =
      subst (λ (s : ℕ). BlocksRead (head_of reading.header) reading.source reading.level (blocks_above reading front.to) (blocks_above reading back.to) reading.bytes.now s end (behind_cells (cells_above reading front.to) south)) begins_at
      (subst (λ (f : ℕ). BlocksRead (head_of reading.header) reading.source reading.level (blocks_above reading f) (blocks_above reading back.to) reading.bytes.now back.start end (behind_cells (cells_above reading f) south)) meets y) in
      subst (λ (t : List ℤ). BlocksRead (head_of reading.header) reading.source reading.level (blocks_above reading front.from) (blocks_above reading back.to) reading.bytes.now front.start end t) (append_assoc (replicate (cells_above reading front.from) (pos 0)) north south)
      (both (blocks_above reading back.to) end south (behind_cells (cells_above reading front.to) south)
      (mul-le-mul_left (blocks_on (cells_on reading.header.width reading.level)) (omega arith))
      (mul-le-mul_left (blocks_on (cells_on reading.header.width reading.level)) down)
      (λ p h. sym (get_or-append_right zeros south (cells_above reading front.to) p (pos 0) (length-replicate (cells_above reading front.to) (pos 0)) h)) there)
  ends_joined south (Err fault) down y =
      let there : HasLevelFault (head_of reading.header) reading.source reading.level (blocks_above reading front.to) reading.bytes.now at fault =
      subst (λ (s : ℕ). HasLevelFault (head_of reading.header) reading.source reading.level (blocks_above reading front.to) reading.bytes.now s fault) begins_at
      (subst (λ (f : ℕ). HasLevelFault (head_of reading.header) reading.source reading.level (blocks_above reading f) reading.bytes.now back.start fault) meets y) in
      let below = there.below in
      let from = there.from in
      let order : blocks_above reading front.from ≤ blocks_above reading front.to = mul-le-mul_left (blocks_on (cells_on reading.header.width reading.level)) (omega arith) in
      record {
        k = there.k;
        from = omega arith;
        below = there.below;
        at = there.at;
        table = first_table ++ drop (cells_above reading front.to) there.table;
        read =
            both there.k there.at (drop (cells_above reading front.to) there.table) there.table there.from (omega arith)
            (λ p h. get_or-drop (cells_above reading front.to) there.table (p - cells_above reading front.to) (pos 0) ∙ ap (λ (q : ℕ). get_or there.table q (pos 0)) (omega arith)) there.read;
        follows = there.follows;
      }

pub fails_front : (reading : Reading) (band front back : Band) (fault : StoreFault) → AreHalves reading band front back → FailsBand reading front fault → FailsBand reading band fault
fails_front reading band front back fault h f =
    subst (λ (s : ℕ). HasLevelFault (head_of reading.header) reading.source reading.level (blocks_above reading band.from) reading.bytes.now s fault) h.start
    (subst (λ (r : ℕ). HasLevelFault (head_of reading.header) reading.source reading.level (blocks_above reading r) reading.bytes.now front.start fault) h.begins f)

pub ends_both : (reading : Reading) (band front back : Band) (north south : List ℤ) (at : ℕ) (first second : Result ℕ StoreFault) (n : ℕ) → IsBand reading band n → AreHalves reading band front back → length north ≡ cells_above reading front.to - cells_above reading front.from → first ≡ Ok at → EndsBand reading front first north → EndsBand reading back second south → EndsBand reading band second (north ++ south)
ends_both reading band front back north south at first second n whole h size ok x y =
    let f = front_band reading band front back n (length north) whole h size in
    let down = subst (λ (r : ℕ). r ≤ blocks_on (cells_on reading.header.height reading.level)) (sym h.ends) whole.down in
    subst (λ (w : Band). EndsBand reading w second (north ++ south)) (same_band band front.from back.to front.start h.begins h.ends h.start)
    (ends_joined reading front back north at h.some h.more h.meets f.room h.next (subst (λ (q : Result ℕ StoreFault). EndsBand reading front q north) ok x) south second down y)

-- ---- an end, by cases
pub ends_of : (reading : Reading) (band : Band) (result : Result ℕ StoreFault) (table : List ℤ) → IfOk result (λ end. ReadsBand reading band end table) → IfErr result (λ fault. FailsBand reading band fault) → EndsBand reading band result table
ends_of reading band (Ok end) table x y = x
ends_of reading band (Err fault) table x y = y

pub ends_well : (reading : Reading) (band : Band) (result : Result ℕ StoreFault) (table : List ℤ) → EndsBand reading band result table → IfOk result (λ end. ReadsBand reading band end table)
ends_well reading band (Ok end) table x = x
ends_well reading band (Err fault) table x = tt

pub ends_badly : (reading : Reading) (band : Band) (result : Result ℕ StoreFault) (table : List ℤ) → EndsBand reading band result table → IfErr result (λ fault. FailsBand reading band fault)
ends_badly reading band (Ok end) table x = tt
ends_badly reading band (Err fault) table x = x
