-- Parts of rows that are painted over.
use Rattle.std.proofs.Common.{◌≡◌, ℕ, ◌+◌, ◌-◌, ◌*◌, ◌<◌, ◌≤◌, ◌≤ℤ◌, true, false, ◌&&◌, cond, List, [], ◌∷◌, ◌++◌, length, get_or, take, drop, fold, flat_map, zero, suc, zero-add, ℤ, pos, refl, ap, sym, ◌∙◌, ⊎_elim, arith, ltb, leb, slice_range}
use Rattle.std.specs.Int.{int_gap}
use Rattle.std.specs.List.{range_with_len}
use Rattle.std.proofs.lemmas.Int.{ints}
use Rattle.std.proofs.lemmas.Bool.Decides.{nat_tests}
use Rattle.std.proofs.lemmas.Bool.{cases_lt}
use Rattle.std.proofs.lemmas.List.{get_or_append_left, get_or-append_right, get_or-take, get_or-drop, length-take-le, take_all, take_more, take-append-le, flat_map_more}
use Rattle.std.proofs.lemmas.List.Edits.{get_or-between}
use Rattle.std.proofs.lemmas.List.FromFn.{fill_by_all, length-map-range_with_len}
use Rattle.std.proofs.lemmas.List.Sums.{fold_push}
use Rattle.std.proofs.Math.Nat.{mul-le-mul}
use Rattle.terrain_model.specs.Terrain.{Terrain, height_at}
use Rattle.terrain_model.specs.Mosaic.{Bounds, left_of, top_of, covers, is_among, height_in, mosaic_width, samples_across}
use Rattle.hgt_tiles.specs.TileView.{TileView, placed}
use Rattle.mosaic.specs.Extents.{IsExtent}
use Rattle.mosaic.specs.Painting.{IsPlacedIn, IsPainted, with_part, painted_over, painted, painted_row}

-- ---- a tile's columns lie in the mosaic's
gap_grows : (a b c : ℤ) → a ≤ℤ b → b ≤ℤ c → int_gap a b ≤ int_gap a c
gap_grows a b c low high = grind (arith, ints)

columns_fit : (g h n s : ℕ) → g ≤ h → s ≡ n + 1 → g * n + s ≤ (h + 1) * n + 1
columns_fit g h n s few side =
    let more : (g + 1) * n ≤ (h + 1) * n = mul-le-mul (omega (arith, few)) (omega arith) in
    let whole : (g + 1) * n ≡ g * n + n = grind arith in
    omega (arith, more, whole, side)

pub left_inside : (bounds : Bounds) (tile : TileView) → IsExtent bounds → IsPlacedIn bounds tile → left_of bounds (placed tile) + bounds.side ≤ mosaic_width bounds
unfolding left_of mosaic_width samples_across placed
left_inside bounds tile h p =
    columns_fit (int_gap bounds.west tile.corner.lon) (int_gap bounds.west bounds.east) (bounds.side - 1) bounds.side (gap_grows bounds.west tile.corner.lon bounds.east p.west p.east) (omega (arith, h.low))

pub among : (first count n : ℕ) → first ≤ n → n < first + count → is_among first count n ≡ true
unfolding is_among
among first count n low high =
    let a : leb first n ≡ true = grind (arith, nat_tests) in
    let b : ltb n (first + count) ≡ true = grind (arith, nat_tests) in
    rw (a, b) refl

pub missed_before : (first count n : ℕ) → n < first → is_among first count n ≡ false
unfolding is_among
missed_before first count n low = let a : leb first n ≡ false = grind (arith, nat_tests) in rw a refl

pub missed_after : (first count n : ℕ) → first + count ≤ n → is_among first count n ≡ false
unfolding is_among
missed_after first count n high =
    let a : leb first n ≡ true = grind (arith, nat_tests) in
    let b : ltb n (first + count) ≡ false = grind (arith, nat_tests) in
    rw (a, b) refl

within : (first count n : ℕ) → is_among first count n ≡ true → (first ≤ n) × (n < first + count)
unfolding is_among
within first count n h = grind (arith, nat_tests)

-- ---- a part of a row
part_at : (row part : List ℤ) (left x : ℕ) → left + length part ≤ length row → x < length row → get_or (with_part row left part) x (pos 0) ≡ cond (is_among left (length part) x) (get_or part (x - left) (pos 0)) (get_or row x (pos 0))
unfolding with_part is_among
part_at row part left x fits inside =
    let front : length (take left row) ≡ left = length-take-le left row (omega (arith, fits)) in
    ⊎_elim
    (λ (west : x < left).
    let in_front : x < length (take left row) = omega (arith, front, west) in
    let out : leb left x ≡ false = grind (arith, nat_tests) in
    get_or_append_left (take left row) (part ++ drop (left + length part) row) (pos 0) x in_front ∙ get_or-take left row x (pos 0) west ∙ rw out refl)
    (λ (east : left ≤ x).
    let there : leb left x ≡ true = grind (arith, nat_tests) in
    let later : get_or (take left row ++ (part ++ drop (left + length part) row)) x (pos 0) ≡ get_or (part ++ drop (left + length part) row) (x - left) (pos 0) =
    get_or-append_right (take left row) (part ++ drop (left + length part) row) left x (pos 0) front east in
    ⊎_elim
    (λ (inner : x < left + length part).
    let inner_too : ltb x (left + length part) ≡ true = grind (arith, nat_tests) in
    later ∙ get_or_append_left part (drop (left + length part) row) (pos 0) (x - left) (omega (arith, inner, east)) ∙ rw (there, inner_too) refl)
    (λ (outer : left + length part ≤ x).
    let out : ltb x (left + length part) ≡ false = grind (arith, nat_tests) in
    let back : left + length part + (x - left - length part) ≡ x = omega (arith, outer) in
    later ∙ get_or-append_right part (drop (left + length part) row) (length part) (x - left) (pos 0) refl (omega (arith, outer))
    ∙ get_or-drop (left + length part) row (x - left - length part) (pos 0) ∙ rw (back, there, out) refl)
    (cases_lt x (left + length part)))
    (cases_lt x left)

-- ---- a tile's row
row_sample : (terrain : Terrain) (u v : ℕ) → u < terrain.width → v < terrain.height → get_or (slice_range terrain.table (v * terrain.width) ((v + 1) * terrain.width)) u (pos 0) ≡ height_at terrain (pos u) (pos v)
unfolding height_at
row_sample terrain u v u_in v_in =
    let column : ltb u terrain.width ≡ true = grind (arith, nat_tests) in
    let row : ltb v terrain.height ≡ true = grind (arith, nat_tests) in
    let whole : (v + 1) * terrain.width ≡ v * terrain.width + terrain.width = grind arith in
    get_or-between terrain.table (v * terrain.width) ((v + 1) * terrain.width) u (pos 0) (omega (arith, whole, u_in)) ∙ rw (column, row) refl

-- a row over which a tile's row is written is painted by the tile
pub tile_painted : (bounds : Bounds) (tile : TileView) (y : ℕ) (row part : List ℤ) → IsPlacedIn bounds tile → top_of bounds (placed tile) ≤ y → y - top_of bounds (placed tile) < bounds.side → left_of bounds (placed tile) + bounds.side ≤ length row → length part ≡ tile.terrain.width → part ≡ slice_range tile.terrain.table ((y - top_of bounds (placed tile)) * tile.terrain.width) ((y - top_of bounds (placed tile) + 1) * tile.terrain.width) → IsPainted bounds y tile row (with_part row (left_of bounds (placed tile)) part)
unfolding painted_over covers height_in placed
tile_painted bounds tile y row part p north south fits long inside_part x inside =
    let left = left_of bounds (placed tile) in
    let top = top_of bounds (placed tile) in
    let side : length part ≡ bounds.side = long ∙ p.columns in
    let room : left + length part ≤ length row = omega (arith, side, fits) in
    let rows : is_among top bounds.side y ≡ true = among top bounds.side y north (omega (arith, south, north)) in
    part_at row part left x room inside
    ∙ ap (λ n. cond (is_among left n x) (get_or part (x - left) (pos 0)) (get_or row x (pos 0))) side
    ∙ elim (is_among left bounds.side x) as (λ b. is_among left bounds.side x ≡ b → cond b (get_or part (x - left) (pos 0)) (get_or row x (pos 0)) ≡ cond (b && is_among top bounds.side y) (height_at (placed tile).terrain (pos (x - left)) (pos (y - top))) (get_or row x (pos 0))) [
      | true ↦ λ e.
          let column : x - left < tile.terrain.width = omega (arith, (within left bounds.side x e).0, (within left bounds.side x e).1, p.columns) in
          let line : y - top < tile.terrain.height = omega (arith, south, p.rows) in
          rw rows (ap (λ xs. get_or xs (x - left) (pos 0)) inside_part ∙ row_sample tile.terrain (x - left) (y - top) column line)
      | false ↦ λ e. refl
    ] refl

-- a row that a tile doesn't cover stays
pub tile_missed : (bounds : Bounds) (tile : TileView) (y : ℕ) (row : List ℤ) → is_among (top_of bounds (placed tile)) bounds.side y ≡ false → IsPainted bounds y tile row row
unfolding painted_over covers
tile_missed bounds tile y row out x inside =
    elim (is_among (left_of bounds (placed tile)) bounds.side x) as (λ b. get_or row x (pos 0) ≡ cond (b && is_among (top_of bounds (placed tile)) bounds.side y) (height_in bounds x y (placed tile)) (get_or row x (pos 0))) [
      | true ↦ rw out refl
      | false ↦ refl
    ]

-- ---- all tiles
-- one more tile is painted
pub painted_more : (bounds : Bounds) (tiles : List TileView) (i : ℕ) (d : TileView) (y : ℕ) (before after : List ℤ) → i < length tiles → ((x : ℕ) → x < length before → get_or before x (pos 0) ≡ painted bounds (take i tiles) x y) → IsPainted bounds y (get_or tiles i d) before after → (x : ℕ) → x < length before → get_or after x (pos 0) ≡ painted bounds (take (i + 1) tiles) x y
unfolding painted
painted_more bounds tiles i d y before after inside old more x x_in =
    more x x_in ∙ ap (λ h. painted_over bounds x y h (get_or tiles i d)) (old x x_in)
    ∙ sym (ap (fold (painted_over bounds x y) (pos 0)) (take_more tiles i d inside) ∙ fold_push (painted_over bounds x y) (pos 0) (take i tiles) (get_or tiles i d))

pub painted_none : (bounds : Bounds) (tiles : List TileView) (x y : ℕ) → pos 0 ≡ painted bounds (take 0 tiles) x y
unfolding painted
painted_none bounds tiles x y = refl

-- a row is painted whole
pub row_painted : (bounds : Bounds) (tiles : List TileView) (n y : ℕ) (row : List ℤ) → length row ≡ mosaic_width bounds → length tiles ≤ n → ((x : ℕ) → x < length row → get_or row x (pos 0) ≡ painted bounds (take n tiles) x y) → row ≡ painted_row bounds tiles y
unfolding painted_row
row_painted bounds tiles n y row long all each =
    let whole : take n tiles ≡ tiles = take_all n tiles all in
    fill_by_all (λ x. painted bounds tiles x y) row (mosaic_width bounds) (pos 0) long (λ k inside. each k (omega (arith, long, inside)) ∙ ap (λ ts. painted bounds ts k y) whole)

pub row_length : (bounds : Bounds) (tiles : List TileView) (y : ℕ) → length (painted_row bounds tiles y) ≡ mosaic_width bounds
unfolding painted_row
row_length bounds tiles y = length-map-range_with_len (λ x. painted bounds tiles x y) 0 (mosaic_width bounds)

-- one more row
pub row_more : (bounds : Bounds) (tiles : List TileView) (y : ℕ) (old new row : List ℤ) → old ≡ flat_map (painted_row bounds tiles) (range_with_len 0 y) → new ≡ old ++ row → row ≡ painted_row bounds tiles y → new ≡ flat_map (painted_row bounds tiles) (range_with_len 0 (y + 1))
row_more bounds tiles y old new row before appended painted =
    appended ∙ ap (λ xs. xs ++ row) before ∙ ap (λ xs. flat_map (painted_row bounds tiles) (range_with_len 0 y) ++ xs) painted
    ∙ flat_map_more (painted_row bounds tiles) [] (range_with_len 0 y) y ∙ ap (λ n. flat_map (painted_row bounds tiles) (range_with_len 0 y ++ n ∷ [])) (sym (zero-add y)) ∙ ap (flat_map (painted_row bounds tiles)) (sym (range_more 0 y))
  where
    range_more : (a n : ℕ) → range_with_len a (n + 1) ≡ range_with_len a n ++ (a + n) ∷ []
    range_more a zero = let e : a + 0 ≡ a = omega arith in rw e refl
    range_more a (suc n) =
        let e : suc n + 1 ≡ suc (n + 1) = omega arith in
        let f : a + suc n ≡ a + 1 + n = omega arith in
        rw (e, f) (ap (λ xs. a ∷ xs) (range_more (a + 1) n))

-- a vector after it was written as a slice
pub buffer_is : {X : Type 0} (n : ℕ) (row rest : List X) → length row ≡ n → take n (row ++ rest) ≡ row
buffer_is n row rest long = ap (λ m. take m (row ++ rest)) (sym long) ∙ take-append-le (length row) row rest (omega arith) ∙ take_all (length row) row (omega arith)
