-- Places in tiles, and the cells of a region row by row.
use Rattle.std.proofs.Common.{◌≡◌, ℕ, zero, suc, ◌+◌, ◌-◌, ◌*◌, ◌/◌, ◌%◌, ◌^◌, ◌<◌, ◌≤◌, ℤ, pos, ◌+ℤ◌, ◌-ℤ◌, ◌≤ℤ◌, List, [], ◌∷◌, ◌++◌, map, flat_map, length, get_or, ap, ◌∙◌, arith}
use Rattle.std.specs.Int.{int_gap}
use Rattle.std.proofs.lemmas.Int.{ints}
use Rattle.std.proofs.lemmas.Nat.{pow-add}
use Rattle.std.proofs.Math.Pow.{pow_mono}
use Rattle.std.proofs.Math.Nat.{mul-le-mul_left}
use Rattle.std.proofs.lemmas.List.{get_or-map, get_or_append_left, get_or-append-add, length-map, length-append}
use Rattle.std.proofs.lemmas.List.FromFn.{length-map-range_with_len, get_or-map-range_with_len}
use mathlib.Core.Path.{ap₂}
use Rattle.clip_regions.specs.declared.region.Region.{Region}
use Rattle.clip_regions.specs.FloorDivision.{floor_rem}
use Rattle.clip_regions.specs.Regions.{columns, rows, numbers_from, cells}
use Rattle.plan_model.specs.Window.{torus_side}
use Rattle.plan_model.specs.Blocks.{tile_of_cell, wrapped_place}
use Rattle.plan_model.specs.declared.tiles.TileId.{TileId}
use Rattle.torus_grid.specs.Places.{place_in_tile, place_among}
use Rattle.torus_grid.specs.Laws.{PlacesInTiles, CellsInRows}
use Rattle.torus_grid.proofs.Numbers.{rem_of_rem}
use Rattle.clip_regions.proofs.Sizes.{gap_is}
use Rattle.clip_regions.proofs.Cells.{lies, Lies}

-- ---- cells of one tile
side_is : (k : ℕ) → 3 ≤ k → torus_side k ≡ 8 * 2 ^ (k - 3)
unfolding torus_side
side_is k h =
    let parts : k ≡ 3 + (k - 3) = omega arith in
    ap (λ (n : ℕ). 2 ^ n) parts ∙ pow-add 2 3 (k - 3)

some_tiles : (k : ℕ) → 0 < 2 ^ (k - 3)
some_tiles k = let some : 2 ^ 0 ≤ 2 ^ (k - 3) = pow_mono {i = 0} {j = k - 3} (omega arith) in omega arith

same_axis : (k : ℕ) (i i' : ℤ) → 3 ≤ k → floor_rem i (torus_side k) / 8 ≡ floor_rem i' (torus_side k) / 8 → floor_rem i 8 ≡ floor_rem i' 8 → floor_rem i (torus_side k) ≡ floor_rem i' (torus_side k)
same_axis k i i' h block place =
    let here : floor_rem i (torus_side k) % 8 ≡ floor_rem i 8 = ap (λ (m : ℕ). floor_rem i m % 8) (side_is k h) ∙ rem_of_rem i (2 ^ (k - 3)) (some_tiles k) in
    let there : floor_rem i' (torus_side k) % 8 ≡ floor_rem i' 8 = ap (λ (m : ℕ). floor_rem i' m % 8) (side_is k h) ∙ rem_of_rem i' (2 ^ (k - 3)) (some_tiles k) in
    omega (arith, block, place, here, there)

pub places_in_tiles : PlacesInTiles
unfolding tile_of_cell place_in_tile wrapped_place
places_in_tiles k i j i' j' h tile place =
    ap₂ (λ (a b : ℕ). (a, b)) (same_axis k i i' h (ap (λ (t : TileId). t.tx) tile) (ap (λ (p : ℕ × ℕ). p.0) place)) (same_axis k j j' h (ap (λ (t : TileId). t.ty) tile) (ap (λ (p : ℕ × ℕ). p.1) place))

-- ---- rows of equal length
in_rows : {X Y : Type 0} (f : X → List Y) (w : ℕ) (xs : List X) (a b : ℕ) (x : X) (d : Y) → ((y : X) → length (f y) ≡ w) → b < length xs → a < w → get_or (flat_map f xs) (w * b + a) d ≡ get_or (f (get_or xs b x)) a d
in_rows f w [] a b x d each h k = absurd (omega arith)
in_rows f w (y ∷ ys) a zero x d each h k =
    let start : w * 0 + a ≡ a = omega arith in
    let inside : a < length (f y) = omega (arith, each y) in
    ap (λ (n : ℕ). get_or (f y ++ flat_map f ys) n d) start ∙ get_or_append_left (f y) (flat_map f ys) d a inside
in_rows f w (y ∷ ys) a (suc b) x d each h k =
    let next : w * suc b + a ≡ length (f y) + (w * b + a) = omega (arith, each y) in
    ap (λ (n : ℕ). get_or (f y ++ flat_map f ys) n d) next ∙ get_or-append-add (f y) (flat_map f ys) (w * b + a) d ∙ in_rows f w ys a b x d each (omega arith) k

numbers_length : (a : ℤ) (n : ℕ) → length (numbers_from a n) ≡ n
numbers_length a n = length-map-range_with_len (λ (i : ℕ). a +ℤ pos i) 0 n

number_at : (a : ℤ) (n i : ℕ) (d : ℤ) → i < n → get_or (numbers_from a n) i d ≡ a +ℤ pos i
number_at a n i d h = get_or-map-range_with_len (λ (m : ℕ). a +ℤ pos m) 0 n i i d h (omega arith)

-- ---- the cells of a region
row_of : Region → ℤ → List (ℤ × ℤ)
row_of r j = map (λ (i : ℤ). (i, j)) (numbers_from r.x0 (columns r))

row_length : (r : Region) (j : ℤ) → length (row_of r j) ≡ columns r
unfolding row_of
row_length r j = length-map (numbers_from r.x0 (columns r)) (λ (i : ℤ). (i, j)) ∙ numbers_length r.x0 (columns r)

cell_at : (r : Region) (a b : ℕ) → a < columns r → b < rows r → get_or (cells r) (columns r * b + a) (pos 0, pos 0) ≡ (r.x0 +ℤ pos a, r.y0 +ℤ pos b)
unfolding row_of
cell_at r a b across along =
    let many : b < length (numbers_from r.y0 (rows r)) = omega (arith, numbers_length r.y0 (rows r)) in
    let wide : a < length (numbers_from r.x0 (columns r)) = omega (arith, numbers_length r.x0 (columns r)) in
    in_rows (row_of r) (columns r) (numbers_from r.y0 (rows r)) a b (pos 0) (pos 0, pos 0) (row_length r) many across ∙ ap (λ (j : ℤ). get_or (row_of r j) a (pos 0, pos 0)) (number_at r.y0 (rows r) b (pos 0) along) ∙ get_or-map (λ (i : ℤ). (i, r.y0 +ℤ pos b)) (numbers_from r.x0 (columns r)) a (pos 0) (pos 0, pos 0) wide ∙ ap (λ (i : ℤ). (i, r.y0 +ℤ pos b)) (number_at r.x0 (columns r) a (pos 0) across)

-- how far a cell lies from the first column and row
pub record IsAt (r : Region) (i j : ℤ) : Type 0 where
  pub across : int_gap r.x0 i < columns r
  pub along : int_gap r.y0 j < rows r
  pub column : r.x0 +ℤ pos (int_gap r.x0 i) ≡ i
  pub row : r.y0 +ℤ pos (int_gap r.y0 j) ≡ j

below_end : (a b c : ℤ) → a ≤ℤ b → b ≤ℤ c → int_gap a b < int_gap a (c +ℤ pos 1)
below_end a b c h k =
    let near : pos (int_gap a b) ≡ b -ℤ a = gap_is a b h in
    let whole : pos (int_gap a (c +ℤ pos 1)) ≡ c +ℤ pos 1 -ℤ a = gap_is a (c +ℤ pos 1) (omega (arith, ints)) in
    omega (arith, ints)

there : (a b : ℤ) → a ≤ℤ b → a +ℤ pos (int_gap a b) ≡ b
there a b h = let near : pos (int_gap a b) ≡ b -ℤ a = gap_is a b h in omega (arith, ints)

pub is_at : (r : Region) (i j : ℤ) → Lies r i j → IsAt r i j
unfolding columns rows
is_at r i j l = record {
  across = below_end r.x0 i r.x1 l.west l.east;
  along = below_end r.y0 j r.y1 l.north l.south;
  column = there r.x0 i l.west;
  row = there r.y0 j l.north;
}

rows_length : {X Y : Type 0} (f : X → List Y) (w : ℕ) (xs : List X) → ((y : X) → length (f y) ≡ w) → length (flat_map f xs) ≡ w * length xs
rows_length f w [] each = omega arith
rows_length f w (y ∷ ys) each =
    let whole : length (f y ++ flat_map f ys) ≡ length (f y) + length (flat_map f ys) = length-append (f y) (flat_map f ys) in
    let first : length (f y) ≡ w = each y in
    let rest : length (flat_map f ys) ≡ w * length ys = rows_length f w ys each in
    omega (arith, whole, first, rest)

cells_length : (r : Region) (a b : ℕ) → a < columns r → b < rows r → columns r * b + a < length (cells r)
unfolding row_of
cells_length r a b across along =
    let whole : length (cells r) ≡ columns r * length (numbers_from r.y0 (rows r)) = rows_length (row_of r) (columns r) (numbers_from r.y0 (rows r)) (row_length r) in
    let many : columns r * length (numbers_from r.y0 (rows r)) ≡ columns r * rows r = ap (λ (n : ℕ). columns r * n) (numbers_length r.y0 (rows r)) in
    let scaled : columns r * (b + 1) ≤ columns r * rows r = mul-le-mul_left (columns r) (omega arith) in
    omega (arith, scaled, whole, many)

pub cells_in_rows : CellsInRows
unfolding place_among
cells_in_rows r h i j inside =
    let at = is_at r i j (lies r i j inside) in
    get_or-map h (cells r) (columns r * int_gap r.y0 j + int_gap r.x0 i) (pos 0, pos 0) (pos 0) (cells_length r (int_gap r.x0 i) (int_gap r.y0 j) at.across at.along) ∙ ap h (cell_at r (int_gap r.x0 i) (int_gap r.y0 j) at.across at.along ∙ ap₂ (λ (a b : ℤ). (a, b)) at.column at.row)
