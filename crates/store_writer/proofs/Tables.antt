-- A table that has the blocks of a level has the heights of its cells.
use Rattle.std.proofs.Common.{◌≡◌, ◌⊎◌, inl, inr, Bool, true, false, cond, ltb, ℕ, zero, suc, ◌+◌, ◌-◌, ◌*◌, ◌/◌, ◌%◌, ◌^◌, ◌<◌, ◌≤◌, ℤ, pos, negsuc, ◌≤ℤ◌, ◌<ℤ◌, List, [], ◌++◌, length, get_or, refl, ap, sym, ◌∙◌, ⊎_elim, arith, length-append}
use Rattle.std.specs.List.{flat_map, range_with_len}
use Rattle.std.proofs.lemmas.Int.{ints}
use Rattle.std.proofs.lemmas.Bool.{cases_lt}
use Rattle.std.proofs.lemmas.Bool.Decides.{nat_tests}
use Rattle.std.proofs.lemmas.List.{get_or_append_left, get_or-append-add, get_or_past}
use Rattle.std.proofs.lemmas.List.FromFn.{length-map-range_with_len, get_or-map-range_with_len}
use Rattle.std.proofs.lemmas.Nat.{mod-mul-add, div-mul-add}
use Rattle.std.proofs.Math.Nat.{mul-le-mul}
use mathlib.Core.Path.{ap₂}
use Rattle.clip_regions.specs.declared.region.Region.{Region}
use Rattle.clip_regions.specs.Regions.{contains}
use Rattle.store_model.specs.Sizes.{cells_on, blocks_on, level_region, block_count, block_column, block_row, cells_in_block, block_region}
use Rattle.store_model.specs.Restored.{restored_cell}
use Rattle.store_writer.specs.Tables.{restored_in, table_place, table_height, block_heights}
use Rattle.store_writer.proofs.Outside.{not_lying}
use Rattle.store_writer.proofs.Restored.{restored_none}
use Rattle.store_writer.proofs.Rows.{flat_range_more}
use Rattle.clip_regions.proofs.Cells.{lies, lying}

-- ---- parts of one length
flat_from : (f : ℕ → List ℤ) (m s n k r : ℕ) (d : ℤ) → ((a : ℕ) → length (f a) ≡ m) → k < n → r < m → get_or (flat_map f (range_with_len s n)) (m * k + r) d ≡ get_or (f (s + k)) r d
flat_from f m s zero k r d len inside below = absurd (omega arith)
flat_from f m s (suc n) zero r d len inside below =
    let first : r < length (f s) = omega (arith, len s) in
    let place : m * 0 + r ≡ r = omega arith in
    let start : s + 0 ≡ s = omega arith in
    ap (λ (p : ℕ). get_or (f s ++ flat_map f (range_with_len (s + 1) n)) p d) place
    ∙ get_or_append_left (f s) (flat_map f (range_with_len (s + 1) n)) d r first
    ∙ ap (λ (a : ℕ). get_or (f a) r d) (sym start)
flat_from f m s (suc n) (suc k) r d len inside below =
    let rest = flat_from f m (s + 1) n k r d len (omega arith) below in
    let place : m * suc k + r ≡ length (f s) + (m * k + r) = omega (arith, len s) in
    let start : s + 1 + k ≡ s + suc k = omega arith in
    ap (λ (p : ℕ). get_or (f s ++ flat_map f (range_with_len (s + 1) n)) p d) place
    ∙ get_or-append-add (f s) (flat_map f (range_with_len (s + 1) n)) (m * k + r) d
    ∙ rest
    ∙ ap (λ (a : ℕ). get_or (f a) r d) start

flat_length : (f : ℕ → List ℤ) (m s n : ℕ) → ((a : ℕ) → length (f a) ≡ m) → length (flat_map f (range_with_len s n)) ≡ m * n
flat_length f m s zero len = omega arith
flat_length f m s (suc n) len =
    omega (arith, len s, flat_length f m (s + 1) n len, length-append (f s) (flat_map f (range_with_len (s + 1) n)))

-- ---- the blocks of a table
unfoldable pub blocks_before : (ℕ → ℤ → ℤ → ℤ) → ℕ → ℕ → List ℤ
blocks_before heights across n = flat_map (λ k. block_heights (heights k) (8 * (k % across)) (8 * (k / across))) (range_with_len 0 n)

pub blocks_none : (heights : ℕ → ℤ → ℤ → ℤ) (across : ℕ) → blocks_before heights across 0 ≡ []
unfolding blocks_before
blocks_none heights across = refl

pub blocks_more : (heights : ℕ → ℤ → ℤ → ℤ) (across n : ℕ) → blocks_before heights across (n + 1) ≡ blocks_before heights across n ++ block_heights (heights n) (8 * (n % across)) (8 * (n / across))
unfolding blocks_before
blocks_more heights across n = flat_range_more (λ k. block_heights (heights k) (8 * (k % across)) (8 * (k / across))) n

block_length : (heights : ℤ → ℤ → ℤ) (x y : ℕ) → length (block_heights heights x y) ≡ 64
unfolding block_heights
block_length heights x y = length-map-range_with_len (λ n. heights (pos (x + n % 8)) (pos (y + n / 8))) 0 64

block_at : (heights : ℤ → ℤ → ℤ) (x y n : ℕ) → n < 64 → get_or (block_heights heights x y) n (pos 0) ≡ heights (pos (x + n % 8)) (pos (y + n / 8))
unfolding block_heights
block_at heights x y n h = get_or-map-range_with_len (λ k. heights (pos (x + k % 8)) (pos (y + k / 8))) 0 64 n n (pos 0) h (omega arith)

-- the number of a block by its column and row
number_below : (across down bx by : ℕ) → bx < across → by < down → by * across + bx < across * down
number_below across down bx by hx hy =
    let more : (by + 1) * across ≤ down * across = mul-le-mul (one_more hy) (le_self across) in
    omega arith
  where
    le_self : (n : ℕ) → n ≤ n
    le_self n = omega arith

    one_more : {a b : ℕ} → a < b → a + 1 ≤ b
    one_more h = omega arith

number_column : (across bx by : ℕ) → bx < across → (by * across + bx) % across ≡ bx
number_column across bx by h = mod-mul-add by across bx h

number_row : (across bx by : ℕ) → bx < across → (by * across + bx) / across ≡ by
number_row across bx by h = div-mul-add by across bx h

-- the height that a table has at a cell of its blocks
blocks_at : (heights : ℕ → ℤ → ℤ → ℤ) (across down i j : ℕ) → i < 8 * across → j < 8 * down → get_or (blocks_before heights across (across * down)) (table_place across i j) (pos 0) ≡ heights (j / 8 * across + i / 8) (pos i) (pos j)
unfolding blocks_before table_place
blocks_at heights across down i j hi hj =
    let bx : i / 8 < across = omega arith in
    let by : j / 8 < down = omega arith in
    let k = j / 8 * across + i / 8 in
    let below = number_below across down (i / 8) (j / 8) bx by in
    let x : k % across ≡ i / 8 = number_column across (i / 8) (j / 8) bx in
    let y : k / across ≡ j / 8 = number_row across (i / 8) (j / 8) bx in
    let r = 8 * (j % 8) + i % 8 in
    let few : r < 64 = omega arith in
    let start : 0 + k ≡ k = omega arith in
    let column : 8 * (k % across) + r % 8 ≡ i = omega arith in
    let row : 8 * (k / across) + r / 8 ≡ j = omega arith in
    flat_from (λ a. block_heights (heights a) (8 * (a % across)) (8 * (a / across))) 64 0 (across * down) k r (pos 0) (λ a. block_length (heights a) (8 * (a % across)) (8 * (a / across))) below few
    ∙ ap (λ (a : ℕ). get_or (block_heights (heights a) (8 * (a % across)) (8 * (a / across))) r (pos 0)) start
    ∙ block_at (heights k) (8 * (k % across)) (8 * (k / across)) r few
    ∙ ap₂ (λ (a b : ℕ). heights k (pos a) (pos b)) column row

blocks_past : (heights : ℕ → ℤ → ℤ → ℤ) (across down i j : ℕ) → 8 * down ≤ j → get_or (blocks_before heights across (across * down)) (table_place across i j) (pos 0) ≡ pos 0
unfolding blocks_before table_place
blocks_past heights across down i j h =
    let f = λ (a : ℕ). block_heights (heights a) (8 * (a % across)) (8 * (a / across)) in
    let len = flat_length f 64 0 (across * down) (λ a. block_length (heights a) (8 * (a % across)) (8 * (a / across))) in
    let by : down ≤ j / 8 = omega arith in
    let more : down * across ≤ j / 8 * across = mul-le-mul by (le_self across) in
    get_or_past (flat_map f (range_with_len 0 (across * down))) (64 * (j / 8 * across + i / 8) + (8 * (j % 8) + i % 8)) (pos 0) (omega arith)
  where
    le_self : (n : ℕ) → n ≤ n
    le_self n = omega arith

-- a table of a level's blocks has the level's heights
pub table_has : (heights : ℕ → ℤ → ℤ → ℤ) (whole : ℤ → ℤ → ℤ) (across down : ℕ) (items : List ℤ) → items ≡ blocks_before heights across (across * down)
    → ((i j : ℕ) → i < 8 * across → j < 8 * down → heights (j / 8 * across + i / 8) (pos i) (pos j) ≡ whole (pos i) (pos j))
    → ((i j : ℤ) → ((i <ℤ pos 0) ⊎ (pos (8 * across) ≤ℤ i)) ⊎ ((j <ℤ pos 0) ⊎ (pos (8 * down) ≤ℤ j)) → whole i j ≡ pos 0)
    → (i j : ℤ) → table_height across items i j ≡ whole i j
unfolding table_height
table_has heights whole across down items e inside outside (pos i) (pos j) =
    ⊎_elim
    (λ (hi : i < 8 * across).
    let test : ltb i (8 * across) ≡ true = grind (arith, nat_tests) in
    ap (λ (t : Bool). cond t (get_or items (table_place across i j) (pos 0)) (pos 0)) test
    ∙ ap (λ (xs : List ℤ). get_or xs (table_place across i j) (pos 0)) e
    ∙ ⊎_elim
    (λ (hj : j < 8 * down). blocks_at heights across down i j hi hj ∙ inside i j hi hj)
    (λ (hj : 8 * down ≤ j). blocks_past heights across down i j hj ∙ sym (outside (pos i) (pos j) (inr (inr (omega (arith, ints))))))
    (cases_lt j (8 * down)))
    (λ (hi : 8 * across ≤ i).
    let test : ltb i (8 * across) ≡ false = grind (arith, nat_tests) in
    ap (λ (t : Bool). cond t (get_or items (table_place across i j) (pos 0)) (pos 0)) test
    ∙ sym (outside (pos i) (pos j) (inl (inr (omega (arith, ints))))))
    (cases_lt i (8 * across))
table_has heights whole across down items e inside outside (pos i) (negsuc j) = sym (outside (pos i) (negsuc j) (inr (inl (omega (arith, ints)))))
table_has heights whole across down items e inside outside (negsuc i) j = sym (outside (negsuc i) j (inl (inl (omega (arith, ints)))))

-- ---- restored heights by blocks and by the level
same_bool : (a b : Bool) → (a ≡ true → b ≡ true) → (b ≡ true → a ≡ true) → a ≡ b
same_bool true b f g = sym (f refl)
same_bool false true f g = g refl
same_bool false false f g = refl

eight_past : (cells n : ℕ) → 1 ≤ cells → 8 * blocks_on cells ≤ n → cells ≤ n
unfolding blocks_on
eight_past cells n some h = omega arith

-- a cell of a block lies in the block's region where it lies in the level's
block_contains : (width height level bx by i j : ℕ) → bx ≡ i / 8 → by ≡ j / 8 → contains (cells_in_block width height level bx by) (pos i) (pos j) ≡ contains (level_region width height level) (pos i) (pos j)
unfolding cells_in_block level_region
block_contains width height level bx by i j ex ey =
    same_bool (contains (cells_in_block width height level bx by) (pos i) (pos j)) (contains (level_region width height level) (pos i) (pos j))
    (λ e.
    let h = lies (cells_in_block width height level bx by) (pos i) (pos j) e in
    let a = h.east in
    let b = h.south in
    lying (level_region width height level) (pos i) (pos j) (record { west = omega (arith, ints); east = omega (arith, ints); north = omega (arith, ints); south = omega (arith, ints) }))
    (λ e.
    let h = lies (level_region width height level) (pos i) (pos j) e in
    let a = h.east in
    let b = h.south in
    lying (cells_in_block width height level bx by) (pos i) (pos j) (record { west = omega (arith, ints); east = omega (arith, ints); north = omega (arith, ints); south = omega (arith, ints) }))

restored_region : (C F : ℤ → ℤ → ℤ) (step : ℕ) (r s : Region) (i j : ℤ) → contains r i j ≡ contains s i j → restored_in C F step r i j ≡ restored_in C F step s i j
unfolding restored_in
restored_region C F step r s i j e = λ t. cond (e t) (restored_cell C step i j (F i j)) (pos 0)

pub restored_blocks : (C F : ℤ → ℤ → ℤ) (step width height level i j : ℕ) → i < 8 * blocks_on (cells_on width level) → restored_in C F step (block_region width height level (j / 8 * blocks_on (cells_on width level) + i / 8)) (pos i) (pos j) ≡ restored_in C F step (level_region width height level) (pos i) (pos j)
unfolding block_region block_column block_row
restored_blocks C F step width height level i j hi =
    let across = blocks_on (cells_on width level) in
    let bx : i / 8 < across = omega arith in
    restored_region C F step (block_region width height level (j / 8 * across + i / 8)) (level_region width height level) (pos i) (pos j)
    (block_contains width height level ((j / 8 * across + i / 8) % across) ((j / 8 * across + i / 8) / across) i j (number_column across (i / 8) (j / 8) bx) (number_row across (i / 8) (j / 8) bx))

pub restored_outside : (C F : ℤ → ℤ → ℤ) (step width height level : ℕ) (i j : ℤ) → ((i <ℤ pos 0) ⊎ (pos (8 * blocks_on (cells_on width level)) ≤ℤ i)) ⊎ ((j <ℤ pos 0) ⊎ (pos (8 * blocks_on (cells_on height level)) ≤ℤ j)) → restored_in C F step (level_region width height level) i j ≡ pos 0
unfolding level_region cells_on blocks_on
restored_outside C F step width height level i j out =
    restored_none C F step (level_region width height level) i j
    (not_lying (level_region width height level) i j
    (λ h.
    let w = h.west in
    let e = h.east in
    let n = h.north in
    let s = h.south in
    ⊎_elim
    (λ (o : (i <ℤ pos 0) ⊎ (pos (8 * (((width - 1) / 2 ^ level + 1 - 1) / 8 + 1)) ≤ℤ i)). ⊎_elim (λ (p : i <ℤ pos 0). absurd (omega (arith, ints))) (λ (p : pos (8 * (((width - 1) / 2 ^ level + 1 - 1) / 8 + 1)) ≤ℤ i). absurd (omega (arith, ints))) o)
    (λ (o : (j <ℤ pos 0) ⊎ (pos (8 * (((height - 1) / 2 ^ level + 1 - 1) / 8 + 1)) ≤ℤ j)). ⊎_elim (λ (p : j <ℤ pos 0). absurd (omega (arith, ints))) (λ (p : pos (8 * (((height - 1) / 2 ^ level + 1 - 1) / 8 + 1)) ≤ℤ j). absurd (omega (arith, ints))) o)
    out))

pub first_cell : (heights : ℤ → ℤ → ℤ) (width level k : ℕ) → block_heights heights (8 * block_column width level k) (8 * block_row width level k) ≡ block_heights heights (8 * (k % blocks_on (cells_on width level))) (8 * (k / blocks_on (cells_on width level)))
unfolding block_column block_row
first_cell heights width level k = refl

-- a table of a level's blocks has the level's restored heights
pub table_of_level : (C F : ℤ → ℤ → ℤ) (step width height level across : ℕ) (items : List ℤ) → across ≡ blocks_on (cells_on width level)
    → items ≡ blocks_before (λ k. restored_in C F step (block_region width height level k)) (blocks_on (cells_on width level)) (block_count width height level)
    → (i j : ℤ) → table_height across items i j ≡ restored_in C F step (level_region width height level) i j
unfolding block_count
table_of_level C F step width height level across items ea e i j =
    ap (λ (n : ℕ). table_height n items i j) ea
    ∙ table_has (λ k. restored_in C F step (block_region width height level k)) (restored_in C F step (level_region width height level)) (blocks_on (cells_on width level)) (blocks_on (cells_on height level)) items e
    (λ a b ha hb. restored_blocks C F step width height level a b ha)
    (restored_outside C F step width height level)
    i j
