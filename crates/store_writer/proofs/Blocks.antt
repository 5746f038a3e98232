-- The cells of a block, by their number.
use Rattle.std.proofs.Common.{◌≡◌, ℕ, ◌+◌, ◌-◌, ◌*◌, ◌/◌, ◌%◌, ◌^◌, ◌<◌, ◌≤◌, ℤ, pos, ◌+ℤ◌, min, refl, ap, sym, ◌∙◌, subst, arith}
use Rattle.std.proofs.lemmas.Int.{ints}
use Rattle.std.proofs.lemmas.Nat.{div_below, mod_below}
use mathlib.Core.Path.{ap₂}
use Rattle.clip_regions.specs.Regions.{columns, rows}
use Rattle.std.proofs.Math.Nat.{mul-le-mul_left}
use Rattle.terrain_model.specs.Terrain.{Terrain, IsTerrain, level_columns, level_rows}
use Rattle.store_model.specs.Sizes.{cells_on, blocks_on, block_count, block_column, block_row, cells_in_block, block_region}
use Rattle.store_writer.specs.declared.cells.Cells.{Cells}
use Rattle.store_writer.specs.Entries.{row_codes}
use Rattle.store_writer.specs.Cells.{region_of, AreCells}

pub columns_are : (terrain : Terrain) (level : ℕ) → level_columns terrain level ≡ cells_on terrain.width level
unfolding level_columns cells_on
columns_are terrain level = refl

pub rows_are : (terrain : Terrain) (level : ℕ) → level_rows terrain level ≡ cells_on terrain.height level
unfolding level_rows cells_on
rows_are terrain level = refl

pub count_is : (terrain : Terrain) (level c r a b : ℕ) → c ≡ level_columns terrain level → r ≡ level_rows terrain level → a ≡ blocks_on c → b ≡ blocks_on r → a * b ≡ block_count terrain.width terrain.height level
unfolding block_count
count_is terrain level c r a b ec er ea eb =
    ap₂ (λ (x y : ℕ). x * y)
    (ea ∙ ap blocks_on (ec ∙ columns_are terrain level))
    (eb ∙ ap blocks_on (er ∙ rows_are terrain level))

-- a block's first cell lies on its side
first_inside : (cells b : ℕ) → 1 ≤ cells → b < blocks_on cells → 8 * b + 1 ≤ cells
unfolding blocks_on
first_inside cells b some h = omega arith

pub column_inside : (c a k : ℕ) → 1 ≤ c → 1 ≤ a → a ≡ blocks_on c → 8 * (k % a) + 1 ≤ c
column_inside c a k some wide e =
    let below : k % a < a = mod_below k a wide in
    first_inside c (k % a) some (omega arith)

pub row_inside : (r a b k : ℕ) → 1 ≤ r → 1 ≤ a → b ≡ blocks_on r → k < a * b → 8 * (k / a) + 1 ≤ r
row_inside r a b k some wide e h =
    let turned : k < b * a = omega (arith, h) in
    let below : k / a < b = div_below k a b wide turned in
    first_inside r (k / a) some (omega arith)

-- the last cell of a block on a side
side_end : (cells b n : ℕ) → 8 * b + 1 ≤ cells → n ≡ min (cells - 8 * b) 8 → 8 * b + n - 1 ≡ min (8 * b + 7) (cells - 1)
side_end cells b n h e = omega arith

pub region_is : (terrain : Terrain) (level k c r a n m : ℕ) → c ≡ level_columns terrain level → r ≡ level_rows terrain level → a ≡ blocks_on c → 8 * (k % a) + 1 ≤ c → 8 * (k / a) + 1 ≤ r → n ≡ min (c - 8 * (k % a)) 8 → m ≡ min (r - 8 * (k / a)) 8 → region_of (record { x0 = 8 * (k % a); y0 = 8 * (k / a); columns = n; rows = m }) ≡ block_region terrain.width terrain.height level k
unfolding region_of block_region cells_in_block block_column block_row
region_is terrain level k c r a n m ec er ea hx hy en em =
    let across : a ≡ blocks_on (cells_on terrain.width level) = ea ∙ ap blocks_on (ec ∙ columns_are terrain level) in
    let width : c ≡ cells_on terrain.width level = ec ∙ columns_are terrain level in
    let height : r ≡ cells_on terrain.height level = er ∙ rows_are terrain level in
    let east : 8 * (k % a) + n - 1 ≡ min (8 * (k % a) + 7) (c - 1) = side_end c (k % a) n hx en in
    let south : 8 * (k / a) + m - 1 ≡ min (8 * (k / a) + 7) (r - 1) = side_end r (k / a) m hy em in
    let end = λ (b cells : ℕ). min (8 * b + 7) (cells - 1) in
    let x1 : 8 * (k % a) + n - 1 ≡ end (k % blocks_on (cells_on terrain.width level)) (cells_on terrain.width level) = east ∙ ap₂ end (ap (λ (x : ℕ). k % x) across) width in
    let y1 : 8 * (k / a) + m - 1 ≡ end (k / blocks_on (cells_on terrain.width level)) (cells_on terrain.height level) = south ∙ ap₂ end (ap (λ (x : ℕ). k / x) across) height in
    λ t. record { x0 = pos (8 * (k % across t)); y0 = pos (8 * (k / across t)); x1 = pos (x1 t); y1 = pos (y1 t) }

-- ---- the sides of a block's cells
pub columns_of : (cells : Cells) → 1 ≤ cells.columns → columns (region_of cells) ≡ cells.columns
unfolding columns region_of
columns_of cells some = omega (arith, ints)

pub rows_of : (cells : Cells) → 1 ≤ cells.rows → rows (region_of cells) ≡ cells.rows
unfolding rows region_of
rows_of cells some = omega (arith, ints)

pub row_in : (terrain : Terrain) (level k c r a : ℕ) → 1 ≤ r → 1 ≤ a → c ≡ level_columns terrain level → r ≡ level_rows terrain level → a ≡ blocks_on c → k < block_count terrain.width terrain.height level → 8 * (k / a) + 1 ≤ r
row_in terrain level k c r a some wide ec er ea h =
    row_inside r a (blocks_on r) k some wide refl (subst (λ (n : ℕ). k < n) (sym (count_is terrain level c r a (blocks_on r) ec er ea refl)) h)

-- no side has more samples than the terrain
side_below : (a b n : ℕ) → 1 ≤ b → a * b ≤ n → a ≤ n
side_below a b n some h =
    let more : a * 1 ≤ a * b = mul-le-mul_left a some in
    omega arith

pub width_small : (terrain : Terrain) → IsTerrain terrain → terrain.width ≤ 2 ^ 26
width_small terrain sound = side_below terrain.width terrain.height (2 ^ 26) sound.some_rows sound.few_samples

pub height_small : (terrain : Terrain) → IsTerrain terrain → terrain.height ≤ 2 ^ 26
height_small terrain sound =
    let few : terrain.width * terrain.height ≤ 2 ^ 26 = sound.few_samples in
    let turned : terrain.height * terrain.width ≤ 2 ^ 26 = omega arith in
    side_below terrain.height terrain.width (2 ^ 26) sound.some_columns turned

pub are_cells : (x y c r n m : ℕ) → 8 * x + 1 ≤ c → 8 * y + 1 ≤ r → c ≤ 2 ^ 26 → r ≤ 2 ^ 26 → n ≡ min (c - 8 * x) 8 → m ≡ min (r - 8 * y) 8 → AreCells (record { x0 = 8 * x; y0 = 8 * y; columns = n; rows = m })
are_cells x y c r n m hx hy hc hr en em = record {
  block_column = omega arith;
  block_row = omega arith;
  near_column = omega arith;
  near_row = omega arith;
  some_columns = omega arith;
  some_rows = omega arith;
  few_columns = omega arith;
  few_rows = omega arith;
}

pub codes_row_is : (code : ℤ → ℤ → ℤ) (cells : Cells) (b : ℕ) → 1 ≤ cells.columns → row_codes code (region_of cells).x0 ((region_of cells).y0 +ℤ pos b) (columns (region_of cells)) ≡ row_codes code (pos cells.x0) (pos (cells.y0 + b)) cells.columns
unfolding region_of
codes_row_is code cells b some = ap (row_codes code (pos cells.x0) (pos (cells.y0 + b))) (columns_of cells some)

pub column_is : (terrain : Terrain) (level k c a : ℕ) → c ≡ level_columns terrain level → a ≡ blocks_on c → 8 * (k % a) ≡ 8 * block_column terrain.width level k
unfolding block_column
column_is terrain level k c a e ea = ap (λ (n : ℕ). 8 * (k % n)) (ea ∙ ap blocks_on (e ∙ columns_are terrain level))

pub row_is : (terrain : Terrain) (level k c a : ℕ) → c ≡ level_columns terrain level → a ≡ blocks_on c → 8 * (k / a) ≡ 8 * block_row terrain.width level k
unfolding block_row
row_is terrain level k c a e ea = ap (λ (n : ℕ). 8 * (k / n)) (ea ∙ ap blocks_on (e ∙ columns_are terrain level))
