-- One more block of a level.
use Rattle.std.proofs.Common.{◌≡◌, Bool, true, false, cond, ltb, ℕ, zero, suc, ◌+◌, ◌-◌, ◌*◌, ◌/◌, ◌%◌, ◌^◌, ◌<◌, ◌≤◌, ℤ, pos, ◌≤ℤ◌, List, [], ◌++◌, length, drop, refl, ap, sym, ◌∙◌, subst, ⊎_elim, arith, append_assoc, append-nil}
use Rattle.std.specs.List.{flat_map, range_with_len}
use Rattle.std.proofs.lemmas.Int.{ints}
use Rattle.std.proofs.lemmas.Nat.{div_below, mod_below}
use Rattle.std.proofs.lemmas.Bool.{cases_Bool, cases_lt}
use Rattle.std.proofs.lemmas.Bool.Decides.{nat_tests}
use mathlib.Core.Path.{ap₂}
use Rattle.clip_regions.specs.declared.region.Region.{Region}
use Rattle.clip_regions.specs.Regions.{contains, columns, rows, area}
use Rattle.block_heights.specs.Pieces.{IsPieceUpTo, column_of, row_of}
use Rattle.store_model.specs.Sizes.{cells_on, blocks_on, block_count, block_column, block_row, cells_in_block, block_region}
use Rattle.store_model.specs.Format.{Head, entry}
use Rattle.store_model.specs.Store.{region_of}
use Rattle.store_reader.specs.declared.blocks.Source.{Source}
use Rattle.store_reader.specs.Places.{cell_heights}
use Rattle.store_reader.specs.Decoding.{IsDecoded}
use Rattle.store_reader.specs.Reading.{next_in, behind, BlockRead, BlocksRead}
use Rattle.store_reader.proofs.CellNumbers.{lies, lying, columns_is, rows_is}
use Rattle.store_reader.proofs.PlainLemmas.{flat_like}

-- ---- the cells of blocks
-- a cell of a block has the block's column and row
pub record OfBlock (bx by : ℕ) (i j : ℤ) : Type 0 where
  pub west : pos (8 * bx) ≤ℤ i
  pub east : i ≤ℤ pos (8 * bx + 7)
  pub north : pos (8 * by) ≤ℤ j
  pub south : j ≤ℤ pos (8 * by + 7)

pub of_block : (width height level m : ℕ) (i j : ℤ) → contains (block_region width height level m) i j ≡ true → OfBlock (block_column width level m) (block_row width level m) i j
unfolding block_region cells_in_block
of_block width height level m i j e =
    let h = lies (block_region width height level m) i j e in
    let w = h.west in
    let x = h.east in
    let n = h.north in
    let s = h.south in
    record { west = w; east = omega (arith, ints); north = n; south = omega (arith, ints) }

one_block : (width level m k : ℕ) → block_column width level m ≡ block_column width level k → block_row width level m ≡ block_row width level k → m ≡ k
unfolding block_column block_row blocks_on
one_block width level m k column row =
    let across = (cells_on width level - 1) / 8 + 1 in
    let rows_same : across * (m / across) ≡ across * (k / across) = ap (λ (n : ℕ). across * n) row in
    omega arith

same_block : (a b c d : ℕ) (i j : ℤ) → OfBlock a b i j → OfBlock c d i j → (a ≡ c) × (b ≡ d)
same_block a b c d i j p q =
    let pw = p.west in
    let pe = p.east in
    let pn = p.north in
    let ps = p.south in
    let qw = q.west in
    let qe = q.east in
    let qn = q.north in
    let qs = q.south in
    (omega (arith, ints), omega (arith, ints))

apart : (head : Head) (level m k : ℕ) (i j : ℤ) → (m ≡ k → ⊥) → contains (region_of head level m) i j ≡ true → contains (region_of head level k) i j ≡ false
apart head level m k i j other inside =
    ⊎_elim
    (λ (e : contains (region_of head level k) i j ≡ true).
    let same = same_block (block_column head.width level m) (block_row head.width level m) (block_column head.width level k) (block_row head.width level k) i j (of_block head.width head.height level m i j inside) (of_block head.width head.height level k i j e) in
    absurd (other (one_block head.width level m k same.0 same.1)))
    (λ (e : contains (region_of head level k) i j ≡ false). e)
    (cases_Bool (contains (region_of head level k) i j))

-- a block of a level has cells
record HasCells (r : Region) : Type 0 where
  across : r.x0 ≤ℤ r.x1
  down : r.y0 ≤ℤ r.y1

has_cells : (width height level m : ℕ) → m < block_count width height level → HasCells (block_region width height level m)
unfolding block_count block_region cells_in_block block_column block_row blocks_on
has_cells width height level m h =
    let across = (cells_on width level - 1) / 8 + 1 in
    let down = (cells_on height level - 1) / 8 + 1 in
    let turned : m < down * across = omega arith in
    let column : m % across < across = mod_below m across (omega arith) in
    let row : m / across < down = div_below m across down (omega arith) turned in
    record { across = omega (arith, ints); down = omega (arith, ints) }

cell_inside : (r : Region) (k : ℕ) → HasCells r → k < area r → contains r (column_of r k) (row_of r k) ≡ true
unfolding area
cell_inside r k some h =
    let a = some.across in
    let d = some.down in
    let wide = columns_is r a in
    let high = rows_is r d in
    let w : 0 < columns r = omega (arith, ints) in
    let turned : k < rows r * columns r = omega arith in
    let column : k % columns r < columns r = mod_below k (columns r) w in
    let row : k / columns r < rows r = div_below k (columns r) (rows r) w turned in
    lying r (column_of r k) (row_of r k) (record { west = omega (arith, ints); east = omega (arith, ints); north = omega (arith, ints); south = omega (arith, ints) })

-- ---- the lists of blocks
-- what holds of the front ones below a number and of the back ones from it on
picked : {A B : Type 0} (m mid : ℕ) (a c : A) (b d : B) (P : A → B → Type 0) → (m < mid → P a b) → (mid ≤ m → P c d) → P (cond (ltb m mid) a c) (cond (ltb m mid) b d)
picked m mid a c b d P front back =
    ⊎_elim
    (λ (l : m < mid).
    let yes : ltb m mid ≡ true = grind (arith, nat_tests) in
    subst (λ (t : Bool). P (cond t a c) (cond t b d)) (sym yes) (front l))
    (λ (l : mid ≤ m).
    let no : ltb m mid ≡ false = grind (arith, nat_tests) in
    subst (λ (t : Bool). P (cond t a c) (cond t b d)) (sym no) (back l))
    (cases_lt m mid)

picked_one : {A : Type 0} (m mid : ℕ) (a c : A) (P : A → Type 0) → (m < mid → P a) → (mid ≤ m → P c) → P (cond (ltb m mid) a c)
picked_one m mid a c P front back = picked m mid a c a c (λ (x : _) (y : _). P x) front back

flat_range_split : (f : ℕ → List ℕ) (a n p : ℕ) → flat_map f (range_with_len a (n + p)) ≡ flat_map f (range_with_len a n) ++ flat_map f (range_with_len (a + n) p)
flat_range_split f a zero p =
    let none : zero + p ≡ p = omega arith in
    let here : a ≡ a + zero = omega arith in
    ap (λ (q : ℕ). flat_map f (range_with_len a q)) none ∙ ap (λ (b : ℕ). flat_map f (range_with_len b p)) here
flat_range_split f a (suc n) p =
    let one : suc n + p ≡ suc (n + p) = omega arith in
    let here : (a + 1) + n ≡ a + suc n = omega arith in
    ap (λ (q : ℕ). flat_map f (range_with_len a q)) one
    ∙ ap (λ (xs : List ℕ). f a ++ xs) (flat_range_split f (a + 1) n p ∙ ap (λ (b : ℕ). flat_map f (range_with_len (a + 1) n) ++ flat_map f (range_with_len b p)) here)
    ∙ sym (append_assoc (f a) (flat_map f (range_with_len (a + 1) n)) (flat_map f (range_with_len (a + suc n) p)))

pub behind-add : (bytes : List ℕ) (start n p : ℕ) → behind bytes start (n + p) ≡ behind bytes (behind bytes start n) p
behind-add bytes start n zero =
    let none : n + zero ≡ n = omega arith in
    ap (behind bytes start) none
behind-add bytes start n (suc p) =
    let one : n + suc p ≡ suc (n + p) = omega arith in
    ap (behind bytes start) one ∙ ap (next_in bytes) (behind-add bytes start n p)

pub no_blocks : (head : Head) (source : Source) (level first : ℕ) (bytes : List ℕ) (start : ℕ) (table : List ℤ) → start ≤ length bytes → BlocksRead head source level first first bytes start start table
no_blocks head source level first bytes start table h =
    let none : 0 ≡ first - first = omega arith in
    record {
      content = λ m. [];
      out = λ m. [];
      ends = h;
      place = ap (behind bytes start) none;
      short = λ m g l. absurd (omega arith);
      sizes = λ m g l. absurd (omega arith);
      decoded = λ m g l. absurd (omega arith);
      pieces = λ m g l. absurd (omega arith);
      spelled = ap (λ (n : ℕ). flat_map (λ m. entry []) (range_with_len first n) ++ drop start bytes) none;
    }

-- the cells of these blocks are in one table as in another
abbrev pub AreLike : Head → ℕ → ℕ → ℕ → List ℤ → List ℤ → Type 0
AreLike head level first k new old =
    (m : ℕ) → first ≤ m → m < k → (i j : ℤ) → contains (region_of head level m) i j ≡ true
    → cell_heights head level new i j ≡ cell_heights head level old i j

-- blocks and those behind them, in one table
pub blocks_joined : (head : Head) (source : Source) (level first mid k : ℕ) (bytes : List ℕ) (start at next : ℕ) (front back table : List ℤ) → first ≤ mid → mid ≤ k → k ≤ block_count head.width head.height level → AreLike head level first mid table front → AreLike head level mid k table back → BlocksRead head source level first mid bytes start at front → BlocksRead head source level mid k bytes at next back → BlocksRead head source level first k bytes start next table
blocks_joined head source level first mid k bytes start at next front back table f g few like unlike x y =
    let content = λ (m : ℕ). cond (ltb m mid) (x.content m) (y.content m) in
    let out = λ (m : ℕ). cond (ltb m mid) (x.out m) (y.out m) in
    let pieces_like : (old : List ℤ) (m : ℕ) (o : List ℤ) → m < k → length o ≡ area (region_of head level m) → ((i j : ℤ) → contains (region_of head level m) i j ≡ true → cell_heights head level table i j ≡ cell_heights head level old i j) → IsPieceUpTo (length o) (cell_heights head level old) (region_of head level m) o → IsPieceUpTo (length o) (cell_heights head level table) (region_of head level m) o =
    λ old m o h size same p. λ j l.
    (let r = region_of head level m in
    p j l ∙ sym (same (column_of r j) (row_of r j) (cell_inside r j (has_cells head.width head.height level m (omega arith)) (omega arith)))) in
    let before : flat_map (λ m. entry (x.content m)) (range_with_len first (mid - first)) ≡ flat_map (λ m. entry (content m)) (range_with_len first (mid - first)) =
    flat_like (λ m. entry (x.content m)) (λ m. entry (content m)) first (mid - first)
    (λ m l h. picked_one m mid (x.content m) (y.content m) (λ c. entry (x.content m) ≡ entry c) (λ e. refl) (λ e. absurd (omega arith))) in
    let behind_it : flat_map (λ m. entry (y.content m)) (range_with_len mid (k - mid)) ≡ flat_map (λ m. entry (content m)) (range_with_len mid (k - mid)) =
    flat_like (λ m. entry (y.content m)) (λ m. entry (content m)) mid (k - mid)
    (λ m l h. picked_one m mid (x.content m) (y.content m) (λ c. entry (y.content m) ≡ entry c) (λ e. absurd (omega arith)) (λ e. refl)) in
    let count : (mid - first) + (k - mid) ≡ k - first = omega arith in
    let seam : first + (mid - first) ≡ mid = omega arith in
    let all : flat_map (λ m. entry (content m)) (range_with_len first (mid - first)) ++ flat_map (λ m. entry (content m)) (range_with_len mid (k - mid)) ≡ flat_map (λ m. entry (content m)) (range_with_len first (k - first)) =
    ap (λ (b : ℕ). flat_map (λ m. entry (content m)) (range_with_len first (mid - first)) ++ flat_map (λ m. entry (content m)) (range_with_len b (k - mid))) (sym seam)
    ∙ sym (flat_range_split (λ m. entry (content m)) first (mid - first) (k - mid))
    ∙ ap (λ (n : ℕ). flat_map (λ m. entry (content m)) (range_with_len first n)) count in
    record {
      content = content;
      out = out;
      ends = y.ends;
      place = y.place ∙ ap (λ (b : ℕ). behind bytes b (k - mid)) x.place ∙ sym (behind-add bytes start (mid - first) (k - mid)) ∙ ap (behind bytes start) count;
      short = λ m l h. picked_one m mid (x.content m) (y.content m) (λ c. length c < 2 ^ 16) (λ e. x.short m l e) (λ e. y.short m e h);
      sizes = λ m l h. picked_one m mid (x.out m) (y.out m) (λ c. length c ≡ area (region_of head level m)) (λ e. x.sizes m l e) (λ e. y.sizes m e h);
      decoded = λ m l h. picked m mid (x.content m) (y.content m) (x.out m) (y.out m) (λ c o. IsDecoded source head.step (region_of head level m) c o) (λ e. x.decoded m l e) (λ e. y.decoded m e h);
      pieces = λ m l h. picked_one m mid (x.out m) (y.out m) (λ o. IsPieceUpTo (length o) (cell_heights head level table) (region_of head level m) o)
          (λ e. pieces_like front m (x.out m) h (x.sizes m l e) (like m l e) (x.pieces m l e))
          (λ e. pieces_like back m (y.out m) h (y.sizes m e h) (unlike m e h) (y.pieces m e h));
      spelled =
          x.spelled
          ∙ ap₂ (λ (xs ys : List ℕ). xs ++ ys) before (y.spelled ∙ ap (λ (xs : List ℕ). xs ++ drop next bytes) behind_it)
          ∙ sym (append_assoc (flat_map (λ m. entry (content m)) (range_with_len first (mid - first))) (flat_map (λ m. entry (content m)) (range_with_len mid (k - mid))) (drop next bytes))
          ∙ ap (λ (xs : List ℕ). xs ++ drop next bytes) all;
    }

one_read : (head : Head) (source : Source) (level k : ℕ) (bytes : List ℕ) (at next : ℕ) (old new : List ℤ) → BlockRead head source level k bytes at next old new → BlocksRead head source level k (k + 1) bytes at next new
one_read head source level k bytes at next old new b =
    let one : 1 ≡ k + 1 - k = omega arith in
    let this : (m : ℕ) → k ≤ m → m < k + 1 → k ≡ m = λ m l h. omega arith in
    record {
      content = λ m. b.content;
      out = λ m. b.out;
      ends = b.ends;
      place = b.place ∙ ap (behind bytes at) one;
      short = λ m l h. b.short;
      sizes = λ m l h. subst (λ (n : ℕ). length b.out ≡ area (region_of head level n)) (this m l h) b.size;
      decoded = λ m l h. subst (λ (n : ℕ). IsDecoded source head.step (region_of head level n) b.content b.out) (this m l h) b.decoded;
      pieces = λ m l h. subst (λ (n : ℕ). IsPieceUpTo (length b.out) (cell_heights head level new) (region_of head level n) b.out) (this m l h) b.piece;
      spelled = b.spelled ∙ ap (λ (xs : List ℕ). xs ++ drop next bytes) (sym (append-nil (entry b.content))) ∙ ap (λ (n : ℕ). flat_map (λ m. entry b.content) (range_with_len k n) ++ drop next bytes) one;
    }

pub blocks_more : (head : Head) (source : Source) (level first k : ℕ) (bytes : List ℕ) (start at next : ℕ) (table new : List ℤ) → first ≤ k → k < block_count head.width head.height level → BlocksRead head source level first k bytes start at table → BlockRead head source level k bytes at next table new → BlocksRead head source level first (k + 1) bytes start next new
blocks_more head source level first k bytes start at next table new from below x b =
    blocks_joined head source level first k (k + 1) bytes start at next table new new from (omega arith) (omega arith)
    (λ m l h i j inside. b.kept i j (apart head level m k i j (λ e. (omega arith)) inside))
    (λ m l h i j inside. refl)
    x (one_read head source level k bytes at next table new b)
