-- One tile alone: the terrain of the set is the tile's.
use Rattle.std.proofs.Common.{◌≡◌, ℕ, zero, suc, ◌+◌, ◌-◌, ◌*◌, ◌<◌, ◌≤◌, true, false, ◌&&◌, List, [], ◌∷◌, ◌++◌, length, get_or, take, drop, map, flat_map, ℤ, pos, negsuc, int_lt, not, ◌||◌, Some, refl, ap, sym, ◌∙◌, arith, ltb}
use Rattle.std.specs.Int.{int_gap}
use Rattle.std.specs.List.{range_with_len}
use Rattle.std.proofs.lemmas.Int.{ints}
use Rattle.std.proofs.lemmas.Bool.Decides.{nat_tests}
use Rattle.std.proofs.lemmas.List.{get_or-take, get_or-drop, length-take-le, take_all, length-drop}
use Rattle.std.proofs.lemmas.List.FromFn.{fill_by_all}
use Rattle.std.proofs.Math.Nat.{mul-le-mul}
use Rattle.std.proofs.Math.Seq.{take-add}
use Rattle.terrain_model.specs.Terrain.{Terrain, height_at}
use Rattle.terrain_model.specs.Mosaic.{samples_across, mosaic_width, mosaic_height, left_of, top_of, is_among, covers, comes_before, owns, owner_of, owned_height, height_in, mosaic_sample, mosaic_terrain, tiles_terrain}
use Rattle.hgt_tiles.specs.TileView.{TileView, IsTile, placed}
use Rattle.hgt_tiles.proofs.TileLemmas.{rows_more}
use Rattle.mosaic.specs.Extents.{extent_of_one}
use Rattle.mosaic.proofs.Extents.{around_is}
use Rattle.mosaic.proofs.Parts.{among}

-- ---- a table row by row
row_inside : (v w h u : ℕ) → v < h → u < w → v * w + u < h * w
row_inside v w h u low inside =
    let more : (v + 1) * w ≤ h * w = mul-le-mul (omega (arith, low)) (omega arith) in
    let next : (v + 1) * w ≡ v * w + w = grind arith in
    omega (arith, more, next, inside)

row_ends : (v w h : ℕ) → v < h → v * w + w ≤ h * w
row_ends v w h low =
    let more : (v + 1) * w ≤ h * w = mul-le-mul (omega (arith, low)) (omega arith) in
    let next : (v + 1) * w ≡ v * w + w = grind arith in
    omega (arith, more, next)

row_is : (f : ℕ → ℕ → ℤ) (w h : ℕ) (table : List ℤ) (v : ℕ) → length table ≡ w * h → v < h → ((x y : ℕ) → x < w → y < h → f x y ≡ get_or table (y * w + x) (pos 0)) →
    take w (drop (v * w) table) ≡ map (λ x. f x v) (range_with_len 0 w)
row_is f w h table v long low each =
    let turned : w * h ≡ h * w = grind arith in
    let room : v * w + w ≤ h * w = row_ends v w h low in
    let left : length (drop (v * w) table) ≡ length table - v * w = length-drop (v * w) table in
    let count : length (take w (drop (v * w) table)) ≡ w = length-take-le w (drop (v * w) table) (omega (arith, left, long, turned, room)) in
    fill_by_all (λ x. f x v) (take w (drop (v * w) table)) w (pos 0) count
    (λ x inside. get_or-take w (drop (v * w) table) x (pos 0) inside ∙ get_or-drop (v * w) table x (pos 0) ∙ sym (each x v inside low))

rows_of : (f : ℕ → ℕ → ℤ) (w h : ℕ) (table : List ℤ) (n : ℕ) → length table ≡ w * h → n ≤ h → ((x y : ℕ) → x < w → y < h → f x y ≡ get_or table (y * w + x) (pos 0)) →
    take (n * w) table ≡ flat_map (λ y. map (λ x. f x y) (range_with_len 0 w)) (range_with_len 0 n)
rows_of f w h table zero long low each = ap (λ m. take m table) (none w)
  where
    none : (n : ℕ) → 0 * n ≡ 0
    none n = omega arith
rows_of f w h table (suc n) long low each =
    let next : suc n * w ≡ n * w + w = grind arith in
    let one : suc n ≡ n + 1 = omega arith in
    let row = λ (y : ℕ). map (λ x. f x y) (range_with_len 0 w) in
    ap (λ m. take m table) next
    ∙ rows_more row n (take (n * w) table) (take (n * w + w) table) (rows_of f w h table n long (omega (arith, low)) each)
    (take-add (n * w) w table ∙ ap (λ xs. take (n * w) table ++ xs) (row_is f w h table n long (omega (arith, low)) each))
    ∙ ap (λ m. flat_map row (range_with_len 0 m)) (sym one)

-- ---- the tile owns each sample
no_gap : (a : ℤ) → int_gap a a ≡ 0
no_gap (pos a) = omega (arith, ints)
no_gap (negsuc a) = omega (arith, ints)

all_across : (side : ℕ) (a : ℤ) → 3 ≤ side → samples_across side a a ≡ side
unfolding samples_across
all_across side a low = rw (no_gap a) (omega (arith, low))

not_before : (tile : TileView) → comes_before (placed tile) (placed tile) ≡ false
unfolding comes_before placed
not_before tile = itself tile.corner.lat tile.corner.lon
  where
    itself : (a b : ℤ) → (int_lt a a || (not (int_lt a a) && int_lt b b)) ≡ false
    itself a b = grind (arith, ints)

nothing : (a : ℤ) (n : ℕ) → int_gap a a * n ≡ 0
nothing a n = rw (no_gap a) (omega arith)

left_none : (tile : TileView) → left_of (extent_of_one tile) (placed tile) ≡ 0
unfolding left_of extent_of_one placed
left_none tile = nothing tile.corner.lon (tile.terrain.width - 1)

top_none : (tile : TileView) → top_of (extent_of_one tile) (placed tile) ≡ 0
unfolding top_of extent_of_one placed
top_none tile = nothing tile.corner.lat (tile.terrain.width - 1)

covered : (tile : TileView) (x y : ℕ) → x < tile.terrain.width → y < tile.terrain.width → covers (extent_of_one tile) x y (placed tile) ≡ true
unfolding covers extent_of_one
covered tile x y column row =
    let bounds = extent_of_one tile in
    let left = left_none tile in
    let top = top_none tile in
    let a : is_among (left_of bounds (placed tile)) tile.terrain.width x ≡ true = among (left_of bounds (placed tile)) tile.terrain.width x (omega (arith, left)) (omega (arith, left, column)) in
    let b : is_among (top_of bounds (placed tile)) tile.terrain.width y ≡ true = among (top_of bounds (placed tile)) tile.terrain.width y (omega (arith, top)) (omega (arith, top, row)) in
    rw (a, b) refl

owner_is : (tile : TileView) (x y : ℕ) → x < tile.terrain.width → y < tile.terrain.width → owner_of (extent_of_one tile) (placed tile ∷ []) x y ≡ Some (placed tile)
unfolding owner_of owns
owner_is tile x y column row = rw (covered tile x y column row, not_before tile) refl

height_there : (terrain : Terrain) (x y : ℕ) → x < terrain.width → y < terrain.height → height_at terrain (pos x) (pos y) ≡ get_or terrain.table (y * terrain.width + x) (pos 0)
unfolding height_at
height_there terrain x y column row =
    let a : ltb x terrain.width ≡ true = grind (arith, nat_tests) in
    let b : ltb y terrain.height ≡ true = grind (arith, nat_tests) in
    rw (a, b) refl

height_is : (tile : TileView) (x y : ℕ) → x < tile.terrain.width → y < tile.terrain.height → height_in (extent_of_one tile) x y (placed tile) ≡ get_or tile.terrain.table (y * tile.terrain.width + x) (pos 0)
unfolding height_in placed
height_is tile x y column row =
    let left : x - left_of (extent_of_one tile) (placed tile) ≡ x = omega (arith, left_none tile) in
    let top : y - top_of (extent_of_one tile) (placed tile) ≡ y = omega (arith, top_none tile) in
    (λ t. height_at tile.terrain (pos (left t)) (pos (top t))) ∙ height_there tile.terrain x y column row

sample_is : (tile : TileView) (x y : ℕ) → IsTile tile.terrain → x < tile.terrain.width → y < tile.terrain.height →
    mosaic_sample (extent_of_one tile) (placed tile ∷ []) x y ≡ get_or tile.terrain.table (y * tile.terrain.width + x) (pos 0)
unfolding mosaic_sample
sample_is tile x y is column row =
    ap (owned_height (extent_of_one tile) x y) (owner_is tile x y column (omega (arith, row, is.square)))
    ∙ height_is tile x y column row

pub alone : (tile : TileView) → IsTile tile.terrain → tiles_terrain (placed tile ∷ []) ≡ tile.terrain
unfolding tiles_terrain mosaic_terrain mosaic_width mosaic_height extent_of_one
alone tile is =
    let bounds = extent_of_one tile in
    let w = tile.terrain.width in
    let h = tile.terrain.height in
    let square : h ≡ w = is.square in
    let wide : mosaic_width bounds ≡ w = all_across w tile.corner.lon is.low in
    let high : mosaic_height bounds ≡ h = all_across w tile.corner.lat is.low ∙ sym square in
    let sample = mosaic_sample bounds (placed tile ∷ []) in
    let count : h * w ≡ length tile.terrain.table = (let turned : h * w ≡ w * h = grind arith in turned ∙ sym is.sound.whole_table) in
    let each : (x y : ℕ) → x < w → y < h → sample x y ≡ get_or tile.terrain.table (y * w + x) (pos 0) = λ x y column row. sample_is tile x y is column row in
    let table : flat_map (λ y. map (λ x. sample x y) (range_with_len 0 (mosaic_width bounds))) (range_with_len 0 (mosaic_height bounds)) ≡ tile.terrain.table =
    (λ t. flat_map (λ y. map (λ x. sample x y) (range_with_len 0 (wide t))) (range_with_len 0 (high t)))
    ∙ sym (rows_of sample w h tile.terrain.table h is.sound.whole_table (omega arith) each)
    ∙ take_all (h * w) tile.terrain.table (omega (arith, count)) in
    ap (λ b. mosaic_terrain b (placed tile ∷ [])) (sym (around_is tile []))
    ∙ (λ t. record { width = wide t; height = high t; table = table t })
