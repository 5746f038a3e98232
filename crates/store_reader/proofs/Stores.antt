-- Levels that were read make up a store, and a level's fault is that of the store.
use Rattle.std.proofs.Common.{◌≡◌, ◌⊎◌, inl, inr, Result, Ok, Err, IfOk, IfErr, Bool, true, false, cond, eqb, ℕ, suc, ◌+◌, ◌-◌, ◌<◌, ◌≤◌, ℤ, pos, FitsSigned, List, ◌++◌, length, take, drop, refl, ap, sym, ◌∙◌, subst, ⊎_elim, arith, append_assoc, length-drop, eq-eqb}
use Rattle.std.specs.Int.{w16}
use Rattle.std.specs.List.{flat_map, range_with_len}
use Rattle.std.proofs.lemmas.Int.{ints}
use Rattle.std.proofs.lemmas.Bool.Decides.{nat_tests}
use Rattle.std.proofs.lemmas.List.{take-append-drop, length-take-le, append_cancel_right}
use mathlib.Core.Path.{ap₂}
use Rattle.clip_regions.specs.Regions.{contains}
use Rattle.terrain_model.specs.Terrain.{Terrain, IsTerrain, height_at, level_height}
use Rattle.terrain_model.specs.Laws.{FinestLevel}
use Rattle.block_heights.specs.Pieces.{IsPieceUpTo}
use Rattle.store_model.specs.declared.fault.StoreFault.{StoreFault}
use Rattle.store_model.specs.declared.fault.StoreFault.TheVariants.{BadMagic, BadHeader, CutShort, BadBlock, OutOfRange, Excess, NoMemory}
use Rattle.store_model.specs.Sizes.{cells_on, level_region, block_count}
use Rattle.store_model.specs.Blocks.{IsWordBlock}
use Rattle.store_model.specs.Format.{Head, IsSoundHead, head_bytes, entry}
use Rattle.store_model.specs.Store.{Levels, region_of, IsBlockOf, AreBlocks, IsLevel, IsFront, IsStore}
use Rattle.store_model.specs.Faults.{OpensWithBlock, HasBlockFault, HasValueOut, IsCutEntry, AtBlock, HasStoreFault}
use Rattle.store_model.specs.Laws.{LevelOutside}
use Rattle.store_laws.specs.Places.{HasFaultAt}
use Rattle.store_laws.specs.Laws.{FrontOfLike, StoreOfLevels}
use Rattle.store_reader.specs.declared.blocks.Source.{Source}
use Rattle.store_reader.specs.declared.blocks.Source.TheVariants.{Plain, Over}
use Rattle.store_reader.specs.Headers.{HasHeaderFault}
use Rattle.store_reader.specs.Places.{cell_heights}
use Rattle.store_reader.specs.Decoding.{IsDecoded, is_plain}
use Rattle.store_reader.specs.Reading.{coarser_of, BlocksRead, HasLevelFault, LevelRead, FailsLevel, LevelsRead}
use Rattle.store_reader.proofs.HeaderBytes.{take_all}
use Rattle.store_model.proofs.Outside.{height_fits}

-- ---- heights of a grid
chosen_fits : (t : Bool) (x : ℤ) → FitsSigned w16 x → FitsSigned w16 (cond t x (pos 0))
chosen_fits true x h = h
chosen_fits false x h = omega (arith, ints)

same_cells : (head : Head) (level : ℕ) (grid : Terrain) → grid.width ≡ cells_on head.width level → grid.height ≡ cells_on head.height level → (i j : ℤ) → height_at grid i j ≡ cell_heights head level grid.table i j
same_cells head level grid w h i j =
    ap₂ (λ (m n : ℕ). height_at (record { width = m; height = n; table = grid.table }) i j) w h

cells_itself : (n : ℕ) → 1 ≤ n → cells_on n 0 ≡ n
unfolding cells_on
cells_itself n h = omega arith

same_region : (width height level w h : ℕ) → 1 ≤ w → 1 ≤ h → w ≡ cells_on width level → h ≡ cells_on height level → level_region w h 0 ≡ level_region width height level
unfolding level_region
same_region width height level w h a b e f =
    ap₂ (λ (m n : ℕ). record { x0 = pos 0; y0 = pos 0; x1 = pos (m - 1); y1 = pos (n - 1) }) (cells_itself w a ∙ e) (cells_itself h b ∙ f)

outside_grid : FinestLevel → LevelOutside → (head : Head) (level : ℕ) (grid : Terrain) → IsTerrain grid → grid.width ≡ cells_on head.width level → grid.height ≡ cells_on head.height level → (i j : ℤ) → contains (level_region head.width head.height level) i j ≡ false → height_at grid i j ≡ pos 0
outside_grid finest out head level grid sound w h i j e =
    let same = same_region head.width head.height level grid.width grid.height sound.some_columns sound.some_rows w h in
    sym (finest grid i j) ∙ out grid 0 i j sound (ap (λ (r : _). contains r i j) same ∙ e)

-- ---- a level and coarser ones
-- heights with those of one level put in
abbrev grown : Levels → ℕ → (ℤ → ℤ → ℤ) → Levels
grown old level f m = cond (eqb m level) f (old m)

grown_here : (old : Levels) (level : ℕ) (f : ℤ → ℤ → ℤ) → grown old level f level ≡ f
grown_here old level f = ap (λ (t : Bool). cond t f (old level)) (eq-eqb level level refl)

grown_above : (old : Levels) (level m : ℕ) (f : ℤ → ℤ → ℤ) → level < m → grown old level f m ≡ old m
grown_above old level m f h =
    let no : eqb m level ≡ false = grind (arith, nat_tests) in
    ap (λ (t : Bool). cond t f (old m)) no

decoded_block : (source : Source) (head : Head) (heights : Levels) (level k : ℕ) (content : List ℕ) (out : List ℤ) → (is_plain source ≡ false → heights (level + 1) ≡ coarser_of source) → IsDecoded source head.step (region_of head level k) content out → IsPieceUpTo (length out) (heights level) (region_of head level k) out → IsBlockOf (is_plain source) head heights level k content
decoded_block Plain head heights level k content out next d p = d (heights level) p
decoded_block (Over grid) head heights level k content out next d p =
    subst (λ (c : ℤ → ℤ → ℤ). IsWordBlock c (heights level) head.step (region_of head level k) content) (sym (next refl)) (d (heights level) p)

are_blocks : (head : Head) (source : Source) (heights : Levels) (level k : ℕ) (bytes : List ℕ) (start at : ℕ) (table : List ℤ) → is_plain source ≡ eqb (level + 1) head.levels → heights level ≡ cell_heights head level table → (is_plain source ≡ false → heights (level + 1) ≡ coarser_of source) → (x : BlocksRead head source level 0 k bytes start at table) → AreBlocks head heights level k (flat_map (λ m. entry (x.content m)) (range_with_len 0 k))
are_blocks head source heights level k bytes start at table kind here next x = record {
  content = x.content;
  short = λ m h. x.short m (omega arith) h;
  blocks = λ m h.
      subst (λ (t : Bool). IsBlockOf t head heights level m (x.content m)) kind
      (decoded_block source head heights level m (x.content m) (x.out m) next (x.decoded m (omega arith) h)
      (subst (λ (f : ℤ → ℤ → ℤ). IsPieceUpTo (length (x.out m)) f (region_of head level m) (x.out m)) (sym here) (x.pieces m (omega arith) h)));
  spelled = refl;
}

spelled_of : (head : Head) (source : Source) (level k : ℕ) (bytes : List ℕ) (start at : ℕ) (table : List ℤ) → (x : BlocksRead head source level 0 k bytes start at table) → drop start bytes ≡ flat_map (λ m. entry (x.content m)) (range_with_len 0 k) ++ drop at bytes
spelled_of head source level k bytes start at table x =
    let all : k - 0 ≡ k = omega arith in
    x.spelled ∙ ap (λ (n : ℕ). flat_map (λ m. entry (x.content m)) (range_with_len 0 n) ++ drop at bytes) all

-- the bytes up to an offset are those up to an earlier one and what stands between
take_to : (bytes between : List ℕ) (start at : ℕ) → start ≤ length bytes → at ≤ length bytes → drop start bytes ≡ between ++ drop at bytes → take at bytes ≡ take start bytes ++ between
take_to bytes between start at s e spelled =
    let whole : bytes ≡ (take start bytes ++ between) ++ drop at bytes =
    sym (take-append-drop start bytes) ∙ ap (λ (xs : List ℕ). take start bytes ++ xs) spelled ∙ sym (append_assoc (take start bytes) between (drop at bytes)) in
    append_cancel_right (take at bytes) (take start bytes ++ between) (drop at bytes) (take-append-drop at bytes ∙ whole)

module _ (finest : FinestLevel) (out : LevelOutside) (like : FrontOfLike) (head : Head) (source : Source) (old : Levels) (level : ℕ) (bytes : List ℕ) (start : ℕ) (below : level < head.levels) (kind : is_plain source ≡ eqb (level + 1) head.levels) (begun : start ≤ length bytes) (front : IsFront head old (head.levels - suc level) (take start bytes)) (coarser : is_plain source ≡ false → old (level + 1) ≡ coarser_of source) where
  grown_front : (f : ℤ → ℤ → ℤ) → IsFront head (grown old level f) (head.levels - suc level) (take start bytes)
  grown_front f =
      like head old (grown old level f) (head.levels - suc level) (take start bytes) (omega arith)
      (λ m l h i j. ap (λ (g : ℤ → ℤ → ℤ). g i j) (sym (grown_above old level m f (omega arith)))) front

  grown_next : (f : ℤ → ℤ → ℤ) → is_plain source ≡ false → grown old level f (level + 1) ≡ coarser_of source
  grown_next f e = grown_above old level (level + 1) f (omega arith) ∙ coarser e

  pub level_more : (at : ℕ) (grid : Terrain) → LevelRead head source level bytes start at grid → LevelsRead head (head.levels - level) bytes at grid
  level_more at grid x =
      let f = cell_heights head level grid.table in
      let G = grown old level f in
      let here : G level ≡ f = grown_here old level f in
      let cells : (i j : ℤ) → height_at grid i j ≡ f i j = same_cells head level grid x.columns x.rows in
      let blocks = flat_map (λ m. entry (x.read.content m)) (range_with_len 0 (block_count head.width head.height level)) in
      let whole : IsLevel head G level blocks = record {
        all = are_blocks head source G level (block_count head.width head.height level) bytes start at grid.table kind here (grown_next f) x.read;
        short = λ i j. subst (FitsSigned w16) (cells i j ∙ ap (λ (g : ℤ → ℤ → ℤ). g i j) (sym here)) (height_fits grid i j x.terrain);
        outside = λ i j e. ap (λ (g : ℤ → ℤ → ℤ). g i j) here ∙ sym (cells i j) ∙ outside_grid finest out head level grid x.terrain x.columns x.rows i j e;
      } in
      let count : head.levels - level ≡ suc (head.levels - suc level) = omega arith in
      let this : head.levels - suc (head.levels - suc level) ≡ level = omega arith in
      let last : head.levels - (head.levels - level) ≡ level = omega arith in
      record {
        heights = G;
        ends = x.read.ends;
        front =
            subst (λ (n : ℕ). IsFront head G n (take at bytes)) (sym count)
            (take start bytes, blocks, grown_front f, subst (λ (l : ℕ). IsLevel head G l blocks) (sym this) whole, take_to bytes blocks start at begun x.read.ends (spelled_of head source level (block_count head.width head.height level) bytes start at grid.table x.read));
        last = λ i j. ap (λ (l : ℕ). G l i j) last ∙ ap (λ (g : ℤ → ℤ → ℤ). g i j) here ∙ sym (cells i j) ∙ sym (finest grid i j);
        columns = x.columns ∙ ap (cells_on head.width) (sym last);
        rows = x.rows ∙ ap (cells_on head.height) (sym last);
        terrain = x.terrain;
      }

  at_block : (sound : IsSoundHead head) (k at : ℕ) (table : List ℤ) (P : Levels → List ℕ → Type 0) → k < block_count head.width head.height level → BlocksRead head source level 0 k bytes start at table → P (grown old level (cell_heights head level table)) (drop at bytes) → AtBlock head level k bytes P
  at_block sound k at table P inside x follows =
      let f = cell_heights head level table in
      let blocks = flat_map (λ m. entry (x.content m)) (range_with_len 0 k) in
      record {
        sound = sound;
        level_below = below;
        block_below = inside;
        heights = grown old level f;
        before = take start bytes;
        blocks = blocks;
        rest = drop at bytes;
        front = grown_front f;
        done = are_blocks head source (grown old level f) level k bytes start at table kind (grown_here old level f) (grown_next f) x;
        spelled = sym (take-append-drop start bytes) ∙ ap (λ (xs : List ℕ). take start bytes ++ xs) (spelled_of head source level k bytes start at table x) ∙ sym (append_assoc (take start bytes) blocks (drop at bytes));
        follows = follows;
      }

  plain_no : level + 1 < head.levels → is_plain source ≡ false
  plain_no h = (let no : eqb (level + 1) head.levels ≡ false = grind (arith, nat_tests) in kind ∙ no)

  store_fault : (sound : IsSoundHead head) (k at : ℕ) (table : List ℤ) (fault : StoreFault) → k < block_count head.width head.height level → BlocksRead head source level 0 k bytes start at table → HasFaultAt head (coarser_of source) level k bytes (drop at bytes) fault → HasStoreFault bytes fault
  store_fault sound k at table BadMagic inside x f = absurd f
  store_fault sound k at table (BadHeader field) inside x f = absurd f
  store_fault sound k at table (CutShort offset) inside x f =
      (f.0, inr (record { head = head; level = level; k = k; at = at_block sound k at table (λ heights rest. IsCutEntry rest) inside x f.1 }))
  store_fault sound k at table (BadBlock l bx by fault) inside x f =
      subst (λ (m : ℕ). HasStoreFault bytes (BadBlock m bx by fault)) (sym f.0)
      (record {
        head = head;
        k = k;
        column = f.1;
        row = f.2;
        at = at_block sound k at table (λ heights rest. OpensWithBlock rest (λ content. HasBlockFault (eqb (level + 1) head.levels) (region_of head level k) content fault)) inside x f.3;
      })
  store_fault sound k at table (OutOfRange l i j value) inside x f =
      let g = grown old level (cell_heights head level table) in
      subst (λ (m : ℕ). HasStoreFault bytes (OutOfRange m i j value)) (sym f.0)
      (record {
        head = head;
        k = k;
        words = f.1;
        at = at_block sound k at table (λ heights rest. OpensWithBlock rest (λ content. HasValueOut (heights (level + 1)) head.step (region_of head level k) content (pos i) (pos j) value)) inside x
            (subst (λ (c : ℤ → ℤ → ℤ). OpensWithBlock (drop at bytes) (λ content. HasValueOut c head.step (region_of head level k) content (pos i) (pos j) value)) (sym (grown_next (cell_heights head level table) (plain_no f.1))) f.2);
      })
  store_fault sound k at table (Excess offset) inside x f = absurd f
  store_fault sound k at table NoMemory inside x f = absurd f

  pub level_fails : (sound : IsSoundHead head) (fault : StoreFault) → FailsLevel head source level bytes start fault → (fault ≡ NoMemory) ⊎ HasStoreFault bytes fault
  level_fails sound fault u =
      ⊎_elim
      (λ (e : fault ≡ NoMemory). inl e)
      (λ (f : HasLevelFault head source level 0 bytes start fault). inr (store_fault sound f.k f.at f.table fault f.below f.read f.follows))
      u

-- ---- the first level, the next one and the end
pub front_of_head : (head : Head) (bytes : List ℕ) (start level : ℕ) → 1 ≤ head.levels → level ≡ head.levels - 1 → bytes ≡ head_bytes head ++ drop start bytes → IsFront head (λ m i j. pos 0) (head.levels - suc level) (take start bytes)
front_of_head head bytes start level some e spelled =
    let none : head.levels - suc level ≡ 0 = omega arith in
    subst (λ (n : ℕ). IsFront head (λ m i j. pos 0) n (take start bytes)) (sym none)
    (append_cancel_right (take start bytes) (head_bytes head) (drop start bytes) (take-append-drop start bytes ∙ spelled))

pub front_of_levels : (head : Head) (n level : ℕ) (bytes : List ℕ) (at : ℕ) (grid : Terrain) → n < head.levels → level ≡ head.levels - n - 1 → (x : LevelsRead head n bytes at grid) → IsFront head x.heights (head.levels - suc level) (take at bytes)
front_of_levels head n level bytes at grid few e x =
    let same : head.levels - suc level ≡ n = omega arith in
    subst (λ (m : ℕ). IsFront head x.heights m (take at bytes)) (sym same) x.front

pub coarser_of_levels : (head : Head) (n level : ℕ) (bytes : List ℕ) (at : ℕ) (grid : Terrain) → n < head.levels → level ≡ head.levels - n - 1 → (x : LevelsRead head n bytes at grid) → x.heights (level + 1) ≡ level_height grid 0
coarser_of_levels head n level bytes at grid few e x =
    let same : level + 1 ≡ head.levels - n = omega arith in
    ap x.heights same ∙ (λ t. λ i j. x.last i j t)

pub whole_store : StoreOfLevels → FinestLevel → (head : Head) (bytes : List ℕ) (at : ℕ) (grid : Terrain) → IsSoundHead head → length bytes ≤ at → LevelsRead head head.levels bytes at grid → IsStore head grid bytes
whole_store store finest head bytes at grid sound past x =
    let none : head.levels - head.levels ≡ 0 = omega arith in
    let all : take at bytes ≡ bytes = take_all bytes at past in
    store head x.heights grid bytes sound x.terrain
    (sym (x.columns ∙ ap (cells_on head.width) none ∙ cells_itself head.width sound.some_columns))
    (sym (x.rows ∙ ap (cells_on head.height) none ∙ cells_itself head.height sound.some_rows))
    (λ i j. ap (λ (l : ℕ). x.heights l i j) (sym none) ∙ x.last i j ∙ finest grid i j)
    (subst (λ (xs : List ℕ). IsFront head x.heights head.levels xs) all x.front)

pub excess_of : (head : Head) (bytes : List ℕ) (at : ℕ) (grid : Terrain) → IsSoundHead head → at < length bytes → LevelsRead head head.levels bytes at grid → HasStoreFault bytes (Excess at)
excess_of head bytes at grid sound more x = record {
  head = head;
  sound = sound;
  heights = x.heights;
  before = take at bytes;
  rest = drop at bytes;
  front = x.front;
  spelled = sym (take-append-drop at bytes);
  some = λ e. (let size = ap length e in omega (arith, length-drop at bytes));
  place = sym (length-take-le at bytes (omega arith));
}

-- ---- exactly the first fault
pub header_fault : (bytes : List ℕ) (fault : StoreFault) → HasHeaderFault bytes fault → HasStoreFault bytes fault
header_fault bytes BadMagic f = f
header_fault bytes (BadHeader field) f = f
header_fault bytes (CutShort offset) f = (f.0, inl f.1)
header_fault bytes (BadBlock level bx by fault) f = absurd f
header_fault bytes (OutOfRange level i j value) f = absurd f
header_fault bytes (Excess offset) f = absurd f
header_fault bytes NoMemory f = absurd f

pub refused : {S : Type 0} (P : S → Type 0) (bytes : List ℕ) (fault : StoreFault) (r : Result S StoreFault) → ((s : S) → P s → ⊥) → ((other : StoreFault) → HasStoreFault bytes other → other ≡ fault) → IfOk r P → IfErr r (λ e. (e ≡ NoMemory) ⊎ HasStoreFault bytes e) → (r ≡ Err fault) ⊎ (r ≡ Err NoMemory)
refused P bytes fault (Ok x) none one p f = absurd (none x p)
refused P bytes fault (Err e) none one p f = ⊎_elim (λ (q : e ≡ NoMemory). inr (ap Err q)) (λ (q : HasStoreFault bytes e). inl (ap Err (one e q))) f
