-- Numbers of blocks, and the place of a block in its level.
use Rattle.std.proofs.Common.{◌≡◌, ◌⊎◌, true, false, min, ℕ, suc, ◌+◌, ◌-◌, ◌*◌, ◌/◌, ◌%◌, ◌<◌, ◌≤◌, ◌&&◌, ℤ, pos, ◌+ℤ◌, ◌*ℤ◌, ◌<ℤ◌, ◌≤ℤ◌, refl, ap, ap₂, sym, ◌∙◌, subst, ⊎_elim, arith}
use Rattle.std.proofs.lemmas.Int.{ints}
use Rattle.std.proofs.lemmas.Bool.{and_parts, cases_Bool}
use Rattle.std.proofs.lemmas.Nat.{mul-add-lt, mod-mul-add, div-mul-add}
use lib.Signed.{le_z}
use Rattle.clip_regions.specs.declared.region.Region.{Region}
use Rattle.clip_regions.specs.Regions.{contains}
use Rattle.store_model.specs.Sizes.{cells_on, blocks_on, level_region, block_count, block_column, block_row, cells_in_block, block_region}
use Rattle.store_model.specs.Format.{Head}
use Rattle.store_reader.specs.declared.header.Header.{Header}
use Rattle.store_reader.specs.Headers.{head_of}
use Rattle.store_index.specs.Places.{blocks_before, block_cells, IsPlaceOf, HasNoBlock}

-- ---- counting
pub total_is : (width height level columns rows across down : ℕ) → columns ≡ cells_on width level → rows ≡ cells_on height level → across ≡ blocks_on columns → down ≡ blocks_on rows → across * down ≡ block_count width height level
unfolding block_count
total_is width height level columns rows across down c r a d = ap₂ (λ (m n : ℕ). m * n) (a ∙ ap blocks_on c) (d ∙ ap blocks_on r)

pub none_before : (head : Head) → 0 ≡ blocks_before head 0
unfolding blocks_before
none_before head = refl

pub one_more_before : (head : Head) (m level count here : ℕ) → count ≡ blocks_before head m → level ≡ head.levels - 1 - m → here ≡ block_count head.width head.height level → count + here ≡ blocks_before head (m + 1)
unfolding blocks_before
one_more_before head m level count here c l h =
    let next : suc m ≡ m + 1 = omega arith in
    let same : level ≡ head.levels - suc m = omega arith in
    let level_count : here ≡ block_count head.width head.height (head.levels - suc m) = h ∙ ap (block_count head.width head.height) same in
    ap₂ (λ (a b : ℕ). a + b) c level_count ∙ ap (blocks_before head) next

-- ---- where no block is
tested_le : (a b : ℤ) → le_z a b ≡ true → a ≤ℤ b
tested_le a b e = omega (arith, ints)

record Inside (r : Region) (i j : ℤ) : Type 0 where
  west : r.x0 ≤ℤ i
  east : i ≤ℤ r.x1
  north : r.y0 ≤ℤ j
  south : j ≤ℤ r.y1

inside : (r : Region) (i j : ℤ) → contains r i j ≡ true → Inside r i j
unfolding contains
inside r i j e =
    let parts = and_parts (le_z r.x0 i && le_z i r.x1) (le_z r.y0 j && le_z j r.y1) e in
    let across = and_parts (le_z r.x0 i) (le_z i r.x1) parts.0 in
    let down = and_parts (le_z r.y0 j) (le_z j r.y1) parts.1 in
    record {
      west = tested_le r.x0 i across.0;
      east = tested_le i r.x1 across.1;
      north = tested_le r.y0 j down.0;
      south = tested_le j r.y1 down.1;
    }

-- no cell is in a row or column of blocks that lies before the first or behind the last
outside_side : (b i : ℤ) (cells blocks : ℕ) → cells ≤ 8 * blocks → 1 ≤ cells → (b <ℤ pos 0) ⊎ (pos blocks ≤ℤ b) → (pos 8 *ℤ b) ≤ℤ i → i ≤ℤ (pos 8 *ℤ b +ℤ pos 7) → pos 0 ≤ℤ i → i ≤ℤ pos (cells - 1) → ⊥
outside_side b i cells blocks few some out low high first last =
    ⊎_elim (λ (l : b <ℤ pos 0). omega (arith, ints)) (λ (l : pos blocks ≤ℤ b). omega (arith, ints)) out

fit : (cells : ℕ) → 1 ≤ cells → cells ≤ 8 * blocks_on cells
unfolding blocks_on
fit cells some = omega arith

pub no_column : (head : Head) (level columns across : ℕ) (bx by : ℤ) → columns ≡ cells_on head.width level → across ≡ blocks_on columns → 1 ≤ columns → (bx <ℤ pos 0) ⊎ (pos across ≤ℤ bx) → HasNoBlock head level bx by
unfolding level_region
no_column head level columns across bx by c a some out = λ low i j e.
    ⊎_elim
    (λ (t : contains (level_region head.width head.height level) i j ≡ true).
    let here = inside (block_cells bx by) i j e in
    let there = inside (level_region head.width head.height level) i j t in
    absurd (outside_side bx i columns across (subst (λ (n : ℕ). columns ≤ 8 * n) (sym a) (fit columns some)) some out here.west here.east there.west (subst (λ (n : ℕ). i ≤ℤ pos (n - 1)) (sym c) there.east)))
    (λ (f : contains (level_region head.width head.height level) i j ≡ false). f)
    (cases_Bool (contains (level_region head.width head.height level) i j))

pub no_row : (head : Head) (level rows down : ℕ) (bx by : ℤ) → rows ≡ cells_on head.height level → down ≡ blocks_on rows → 1 ≤ rows → (by <ℤ pos 0) ⊎ (pos down ≤ℤ by) → HasNoBlock head level bx by
unfolding level_region
no_row head level rows down bx by c a some out = λ low i j e.
    ⊎_elim
    (λ (t : contains (level_region head.width head.height level) i j ≡ true).
    let here = inside (block_cells bx by) i j e in
    let there = inside (level_region head.width head.height level) i j t in
    absurd (outside_side by j rows down (subst (λ (n : ℕ). rows ≤ 8 * n) (sym a) (fit rows some)) some out here.north here.south there.north (subst (λ (n : ℕ). j ≤ℤ pos (n - 1)) (sym c) there.south)))
    (λ (f : contains (level_region head.width head.height level) i j ≡ false). f)
    (cases_Bool (contains (level_region head.width head.height level) i j))

-- ---- where one is
same_region : (r : Region) (a b c d : ℤ) → r.x0 ≡ a → r.y0 ≡ b → r.x1 ≡ c → r.y1 ≡ d → r ≡ record { x0 = a; y0 = b; x1 = c; y1 = d }
same_region r a b c d p q s t = λ i. record { x0 = p i; y0 = q i; x1 = s i; y1 = t i }

pub place_found : (header : Header) (level x y k before columns rows across down : ℕ) (bx by : ℤ) (cells : Region) → level < header.levels → columns ≡ cells_on header.width level → rows ≡ cells_on header.height level → across ≡ blocks_on columns → down ≡ blocks_on rows → bx ≡ pos x → by ≡ pos y → x < across → y < down → k ≡ y * across + x → before ≡ blocks_before (head_of header) (header.levels - 1 - level) → cells.x0 ≡ pos (8 * x) → cells.y0 ≡ pos (8 * y) → cells.x1 ≡ pos (min (8 * x + 7) (columns - 1)) → cells.y1 ≡ pos (min (8 * y + 7) (rows - 1)) → IsPlaceOf (head_of header) level bx by (record { number = before + k; cells = cells })
unfolding block_region cells_in_block block_column block_row
place_found header level x y k before columns rows across down bx by cells low c r a d p q under below e b w n s t =
    let wide : across ≡ blocks_on (cells_on header.width level) = a ∙ ap blocks_on c in
    let column : k % across ≡ x = ap (λ (m : ℕ). m % across) e ∙ mod-mul-add y across x under in
    let row : k / across ≡ y = ap (λ (m : ℕ). m / across) e ∙ div-mul-add y across x under in
    let column_is : x ≡ block_column header.width level k = sym column ∙ ap (λ (m : ℕ). k % m) wide in
    let row_is : y ≡ block_row header.width level k = sym row ∙ ap (λ (m : ℕ). k / m) wide in
    let turned : y * across + x < across * down = mul-add-lt y across x down below under in
    let inside_count : k < across * down = omega (arith, e) in
    let first : header.levels - 1 - level ≡ header.levels - suc level = omega arith in
    let bxs = block_column header.width level k in
    let bys = block_row header.width level k in
    record {
      k = k;
      at = record {
        in_store = low;
        below = subst (λ (m : ℕ). k < m) (total_is header.width header.height level columns rows across down c r a d) inside_count;
        column = p ∙ ap pos column_is;
        row = q ∙ ap pos row_is;
      };
      number = ap (λ (m : ℕ). m + k) (b ∙ ap (blocks_before (head_of header)) first);
      cells =
          same_region cells (pos (8 * bxs)) (pos (8 * bys)) (pos (min (8 * bxs + 7) (cells_on header.width level - 1))) (pos (min (8 * bys + 7) (cells_on header.height level - 1)))
          (w ∙ ap (λ (m : ℕ). pos (8 * m)) column_is)
          (n ∙ ap (λ (m : ℕ). pos (8 * m)) row_is)
          (s ∙ ap₂ (λ (m v : ℕ). pos (min (8 * m + 7) (v - 1))) column_is c)
          (t ∙ ap₂ (λ (m v : ℕ). pos (min (8 * m + 7) (v - 1))) row_is r);
    }
