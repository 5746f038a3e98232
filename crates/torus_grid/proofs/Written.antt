-- Heights that are written over the cells of a region, a row of them at each turn.
use Rattle.std.proofs.Common.{◌≡◌, ℕ, ◌+◌, ◌-◌, ◌*◌, ◌<◌, ◌≤◌, ◌⊎◌, true, false, ℤ, pos, ◌+ℤ◌, ◌-ℤ◌, ◌*ℤ◌, ◌≤ℤ◌, List, length, get_or, set, get_or-set_same, get_or-set_other, length-set, refl, ap, sym, ◌∙◌, subst, inl, inr, arith}
use Rattle.std.specs.Int.{int_gap}
use Rattle.std.proofs.lemmas.Int.{ints}
use mathlib.Core.Path.{ap₂}
use Rattle.clip_regions.specs.declared.region.Region.{Region}
use Rattle.clip_regions.specs.FloorDivision.{floor_div, floor_rem}
use Rattle.clip_regions.specs.Regions.{contains, is_empty, columns, rows}
use Rattle.plan_model.specs.Blocks.{block_cells}
use Rattle.plan_model.specs.Sound.{IsInside}
use Rattle.plan_laws.specs.Hulls.{InsideIsHeld}
use Rattle.torus_grid.specs.Places.{place_in_tile, tile_height, place_among, IsInOneBlock, IsFree, IsWritten}
use Rattle.torus_grid.proofs.Numbers.{eight_below, eight_is, rem_on}
use Rattle.torus_grid.proofs.PlaceLaws.{IsAt, is_at}
use Rattle.clip_regions.proofs.Sizes.{gap_is}
use Rattle.strip_planner.proofs.Rings.{by_order}
use Rattle.clip_regions.proofs.Cells.{Lies, lies, lying}

-- n heights of a row, from `from` on, are written over a tile from `to` on
pub record RowSoFar (to from n : ℕ) (old heights new : List ℤ) : Type 0 where
  pub many : length new ≡ length old
  pub written : (m : ℕ) → m < n → get_or new (to + m) (pos 0) ≡ get_or heights (from + m) (pos 0)
  pub others : (m : ℕ) → (m < to) ⊎ (to + n ≤ m) → get_or new m (pos 0) ≡ get_or old m (pos 0)

pub row_none : (to from : ℕ) (old heights : List ℤ) → RowSoFar to from 0 old heights old
row_none to from old heights = record {
  many = refl;
  written = λ m l. absurd (omega arith);
  others = λ m h. refl;
}

module _ (to from n : ℕ) (old heights new : List ℤ) (v : ℤ) (so_far : RowSoFar to from n old heights new) (inside : to + n < length new) (read : v ≡ get_or heights (from + n) (pos 0)) where
  last_height : (m : ℕ) → m ≡ n → get_or (set new (to + n) v) (to + m) (pos 0) ≡ get_or heights (from + m) (pos 0)
  last_height m e =
      ap (λ (k : ℕ). get_or (set new (to + n) v) (to + k) (pos 0)) e ∙ get_or-set_same new (to + n) v (pos 0) inside ∙ read ∙ ap (λ (k : ℕ). get_or heights (from + k) (pos 0)) (sym e)

  other_height : (m : ℕ) → (m ≡ to + n → ⊥) → get_or (set new (to + n) v) m (pos 0) ≡ get_or new m (pos 0)
  other_height m ne = get_or-set_other new (to + n) m v (pos 0) ne

  outside : (m : ℕ) → (m < to) ⊎ (to + (n + 1) ≤ m) → get_or (set new (to + n) v) m (pos 0) ≡ get_or old m (pos 0)
  outside m (inl h) = other_height m (λ e. omega arith) ∙ so_far.others m (inl h)
  outside m (inr h) = other_height m (λ e. omega arith) ∙ so_far.others m (inr (omega arith))

  pub row_more : RowSoFar to from (n + 1) old heights (set new (to + n) v)
  row_more = record {
    many = length-set new (to + n) v ∙ so_far.many;
    written = λ m l. by_order n m (λ (h : n ≤ m). last_height m (omega arith)) (λ (h : m < n). other_height (to + m) (λ e. omega arith) ∙ so_far.written m h);
    others = outside;
  }

-- q rows of w heights each are written over a tile, from column x and row y of it on
pub record RowsWritten (x y w q : ℕ) (old heights new : List ℤ) : Type 0 where
  pub many : length new ≡ 64
  pub written : (a b : ℕ) → a < w → b < q → get_or new (8 * (y + b) + (x + a)) (pos 0) ≡ get_or heights (w * b + a) (pos 0)
  pub others : (n : ℕ) → ((a b : ℕ) → a < w → b < q → n ≡ 8 * (y + b) + (x + a) → ⊥) → get_or new n (pos 0) ≡ get_or old n (pos 0)

pub rows_none : (x y w : ℕ) (old heights : List ℤ) → length old ≡ 64 → RowsWritten x y w 0 old heights old
rows_none x y w old heights many = record {
  many = many;
  written = λ a b l m. absurd (omega arith);
  others = λ n free. refl;
}

-- one more row, of the w heights from `from` on, written from `to` on
module _ (x y w q to from : ℕ) (old heights mid new : List ℤ) (fits : x + w ≤ 8) (so_far : RowsWritten x y w q old heights mid) (many : length new ≡ length mid) (row : (n : ℕ) → n < w → get_or new (to + n) (pos 0) ≡ get_or heights (from + n) (pos 0)) (rest : (n : ℕ) → (n < to) ⊎ (to + w ≤ n) → get_or new n (pos 0) ≡ get_or mid n (pos 0)) (at : to ≡ 8 * (y + q) + x) (of : from ≡ w * q) where
  last_row : (a b : ℕ) → a < w → b ≡ q → get_or new (8 * (y + b) + (x + a)) (pos 0) ≡ get_or heights (w * b + a) (pos 0)
  last_row a b l e =
      let place : 8 * (y + b) + (x + a) ≡ to + a = omega arith in
      let among : from + a ≡ w * b + a = ap (λ (n : ℕ). n + a) (of ∙ ap (λ (n : ℕ). w * n) (sym e)) in
      ap (λ (n : ℕ). get_or new n (pos 0)) place ∙ row a l ∙ ap (λ (n : ℕ). get_or heights n (pos 0)) among

  earlier_row : (a b : ℕ) → a < w → b < q → get_or new (8 * (y + b) + (x + a)) (pos 0) ≡ get_or heights (w * b + a) (pos 0)
  earlier_row a b l m = rest (8 * (y + b) + (x + a)) (inl (omega arith)) ∙ so_far.written a b l m

  other_place : (n : ℕ) → ((a b : ℕ) → a < w → b < q + 1 → n ≡ 8 * (y + b) + (x + a) → ⊥) → get_or new n (pos 0) ≡ get_or mid n (pos 0)
  other_place n free =
      by_order to n (λ (h : to ≤ n). by_order (to + w) n (λ (k : to + w ≤ n). rest n (inr k)) (λ (k : n < to + w). absurd (free (n - to) q (omega arith) (omega arith) (omega arith)))) (λ (h : n < to). rest n (inl h))

  pub rows_more : RowsWritten x y w (q + 1) old heights new
  rows_more = record {
    many = many ∙ so_far.many;
    written = λ a b l m. by_order q b (λ (h : q ≤ b). last_row a b l (omega arith)) (λ (h : b < q). earlier_row a b l h);
    others = λ n free. other_place n free ∙ so_far.others n (λ a b l m e. free a b l (omega arith) e);
  }

pub rows_at : (x y w w' q q' : ℕ) (old heights new : List ℤ) → w ≡ w' → q ≡ q' → RowsWritten x y w q old heights new → RowsWritten x y w' q' old heights new
rows_at x y w w' q q' old heights new e g h =
    subst (λ (n : ℕ). RowsWritten x y w' n old heights new) g (subst (λ (n : ℕ). RowsWritten x y n q old heights new) e h)

-- ---- the cells of one block
pub record IsShort (r : Region) : Type 0 where
  pub across : r.x0 ≤ℤ r.x1
  pub along : r.y0 ≤ℤ r.y1
  pub wide : (r.x1 -ℤ r.x0) ≤ℤ pos 7
  pub high : (r.y1 -ℤ r.y0) ≤ℤ pos 7
  pub column : floor_rem r.x0 8 + columns r ≤ 8
  pub row : floor_rem r.y0 8 + rows r ≤ 8

fit : (a b c : ℤ) → (pos 8 *ℤ c) ≤ℤ a → a ≤ℤ b → b ≤ℤ (pos 8 *ℤ c +ℤ pos 7) → floor_rem a 8 + int_gap a (b +ℤ pos 1) ≤ 8
fit a b c low order high =
    let below : floor_rem a 8 < 8 = eight_below a in
    let whole : a ≡ pos 8 *ℤ floor_div a 8 +ℤ pos (floor_rem a 8) = eight_is a in
    let count : pos (int_gap a (b +ℤ pos 1)) ≡ b +ℤ pos 1 -ℤ a = gap_is a (b +ℤ pos 1) (omega (arith, ints)) in
    omega (arith, ints)

pub short_from : InsideIsHeld → (r : Region) → IsInOneBlock r → is_empty r ≡ false → IsShort r
unfolding block_cells columns rows
short_from law r block some =
    let inside : IsInside (block_cells block.bx block.by) r = (law (block_cells block.bx block.by) r).1 (some, block.held) in
    record {
      across = inside.columns;
      along = inside.rows;
      wide = omega (arith, ints, inside.west, inside.east);
      high = omega (arith, ints, inside.north, inside.south);
      column = fit r.x0 r.x1 block.bx inside.west inside.columns inside.east;
      row = fit r.y0 r.y1 block.by inside.north inside.rows inside.south;
    }

-- ---- all rows
before_end : (a c : ℤ) (n : ℕ) → a ≤ℤ c → n < int_gap a (c +ℤ pos 1) → (a +ℤ pos n) ≤ℤ c
before_end a c n h k =
    let whole : pos (int_gap a (c +ℤ pos 1)) ≡ c +ℤ pos 1 -ℤ a = gap_is a (c +ℤ pos 1) (omega (arith, ints)) in
    omega (arith, ints)

lies_at : (r : Region) (a b : ℕ) → IsShort r → a < columns r → b < rows r → Lies r (r.x0 +ℤ pos a) (r.y0 +ℤ pos b)
unfolding columns rows
lies_at r a b short l m = record {
  west = omega (arith, ints);
  east = before_end r.x0 r.x1 a short.across l;
  north = omega (arith, ints);
  south = before_end r.y0 r.y1 b short.along m;
}

module _ (r : Region) (old heights new : List ℤ) (short : IsShort r) (all : RowsWritten (floor_rem r.x0 8) (floor_rem r.y0 8) (columns r) (rows r) old heights new) where
  cell_written : (i j : ℤ) → contains r i j ≡ true → tile_height new i j ≡ get_or heights (place_among r i j) (pos 0)
  unfolding tile_height place_among
  cell_written i j inside =
      let at : IsAt r i j = is_at r i j (lies r i j inside) in
      let column : floor_rem i 8 ≡ floor_rem r.x0 8 + int_gap r.x0 i = ap (λ (z : ℤ). floor_rem z 8) (sym at.column) ∙ rem_on r.x0 (int_gap r.x0 i) (omega (arith, at.across, short.column)) in
      let row : floor_rem j 8 ≡ floor_rem r.y0 8 + int_gap r.y0 j = ap (λ (z : ℤ). floor_rem z 8) (sym at.row) ∙ rem_on r.y0 (int_gap r.y0 j) (omega (arith, at.along, short.row)) in
      ap₂ (λ (u v : ℕ). get_or new (8 * u + v) (pos 0)) row column ∙ all.written (int_gap r.x0 i) (int_gap r.y0 j) at.across at.along

  cell_kept : (i j : ℤ) → IsFree r i j → tile_height new i j ≡ tile_height old i j
  unfolding tile_height place_in_tile
  cell_kept i j free =
      all.others (8 * floor_rem j 8 + floor_rem i 8) (λ a b l m e. let small : floor_rem i 8 < 8 = eight_below i in let low : floor_rem j 8 < 8 = eight_below j in let column : floor_rem i 8 ≡ floor_rem r.x0 8 + a = omega (arith, short.column) in let row : floor_rem j 8 ≡ floor_rem r.y0 8 + b = omega (arith, short.column) in free (r.x0 +ℤ pos a) (r.y0 +ℤ pos b) (lying r (r.x0 +ℤ pos a) (r.y0 +ℤ pos b) (lies_at r a b short l m)) (ap₂ (λ (u v : ℕ). (u, v)) (column ∙ sym (rem_on r.x0 a (omega (arith, short.column)))) (row ∙ sym (rem_on r.y0 b (omega (arith, short.row))))))

  pub all_written : IsWritten old r heights new
  all_written = record { many = all.many; written = cell_written; others = cell_kept }

-- what lies outside a row lies outside the front of it
pub wider : (to w m n : ℕ) → m ≤ w → (n < to) ⊎ (to + w ≤ n) → (n < to) ⊎ (to + m ≤ n)
wider to w m n h (inl l) = inl l
wider to w m n h (inr l) = inr (omega arith)
