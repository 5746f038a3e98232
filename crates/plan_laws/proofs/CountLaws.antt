-- The laws of how many pieces a region has.
use Rattle.std.proofs.Common.{◌≡◌, ℕ, ◌-◌, ◌*◌, ◌^◌, ◌<◌, ◌≤◌, ℤ, pos, negsuc, ◌+ℤ◌, ◌*ℤ◌, ◌≤ℤ◌, map, length, ap, sym, ◌∙◌, inl, inr, arith}
use Rattle.std.proofs.lemmas.Int.{ints}
use Rattle.std.proofs.lemmas.Bool.{cases_Bool, cond-true, cond-false}
use Rattle.std.proofs.lemmas.List.{length-map}
use Rattle.std.proofs.Math.Nat.{mul-le-mul_left}
use Rattle.std.proofs.Math.Pow.{pow_mono}
use Rattle.std.specs.Int.{int_gap}
use Rattle.clip_regions.specs.declared.region.Region.{Region}
use Rattle.clip_regions.specs.FloorDivision.{floor_div, floor_rem}
use Rattle.clip_regions.specs.Regions.{is_empty}
use Rattle.plan_model.specs.Window.{half_width, window}
use Rattle.plan_model.specs.Strips.{block_columns, block_rows, piece_in, pieces}
use Rattle.plan_laws.specs.Pieces.{blocks_between, piece_count, PiecesAreCounted, WindowsHaveFewPieces}
use Rattle.clip_regions.proofs.Quotients.{rem_below, quotient_and_rest}
use Rattle.clip_regions.proofs.Cells.{Within, within}
use Rattle.plan_model.proofs.PieceLaws.{piece_rows, pieces_some, pieces_none}
use Rattle.clip_regions.proofs.Sizes.{length_rows, length_numbers}

-- ---- a count
columns_count : (r : Region) → length (block_columns r) ≡ blocks_between r.x0 r.x1
unfolding block_columns blocks_between
columns_count r = length_numbers (floor_div r.x0 8) (int_gap (floor_div r.x0 8) (floor_div r.x1 8 +ℤ pos 1))

rows_count : (r : Region) → length (block_rows r) ≡ blocks_between r.y0 r.y1
unfolding block_rows blocks_between
rows_count r = length_numbers (floor_div r.y0 8) (int_gap (floor_div r.y0 8) (floor_div r.y1 8 +ℤ pos 1))

pub count_rows : (r : Region) → length (piece_rows r) ≡ blocks_between r.x0 r.x1 * blocks_between r.y0 r.y1
unfolding piece_rows
count_rows r =
    length_rows (λ (by : ℤ). map (λ (bx : ℤ). piece_in r bx by) (block_columns r)) (blocks_between r.x0 r.x1) (λ (by : ℤ). length-map (block_columns r) (λ (bx : ℤ). piece_in r bx by) ∙ columns_count r) (block_rows r) ∙ ap (λ (n : ℕ). blocks_between r.x0 r.x1 * n) (rows_count r)

pub pieces_are_counted : PiecesAreCounted
unfolding piece_count
pieces_are_counted r =
    elim (cases_Bool (is_empty r)) [
      | inl e ↦ ap length (pieces_none r e) ∙ sym (cond-true (is_empty r) 0 (blocks_between r.x0 r.x1 * blocks_between r.y0 r.y1) e)
      | inr e ↦ ap length (pieces_some r e) ∙ count_rows r ∙ sym (cond-false (is_empty r) 0 (blocks_between r.x0 r.x1 * blocks_between r.y0 r.y1) e)
    ]

-- ---- at most 33 a side
gap_at_most : (a b : ℤ) (n : ℕ) → b ≤ℤ (a +ℤ pos n) → int_gap a b ≤ n
gap_at_most (pos a) (pos b) n h = omega (arith, ints)
gap_at_most (pos a) (negsuc b) n h = omega arith
gap_at_most (negsuc a) (pos b) n h = omega (arith, ints)
gap_at_most (negsuc a) (negsuc b) n h = omega (arith, ints)

few_blocks : (first last : ℤ) → last ≤ℤ (first +ℤ pos 254) → blocks_between first last ≤ 33
unfolding blocks_between
few_blocks first last h =
    let ra : floor_rem first 8 < 8 = rem_below first 8 (omega arith) in
    let rb : floor_rem last 8 < 8 = rem_below last 8 (omega arith) in
    let wa : first ≡ pos 8 *ℤ floor_div first 8 +ℤ pos (floor_rem first 8) = quotient_and_rest first 8 (omega arith) in
    let wb : last ≡ pos 8 *ℤ floor_div last 8 +ℤ pos (floor_rem last 8) = quotient_and_rest last 8 (omega arith) in
    gap_at_most (floor_div first 8) (floor_div last 8 +ℤ pos 1) 33 (omega (arith, ints))

few_times : (m n : ℕ) → m ≤ 33 → n ≤ 33 → m * n ≤ 1089
few_times m n h k =
    let a : m * n ≤ m * 33 = mul-le-mul_left m k in
    omega arith

short_half : (k : ℕ) → k ≤ 8 → half_width k ≤ 127
unfolding half_width
short_half k h =
    let less : k - 1 ≤ 7 = omega arith in
    let power : 2 ^ (k - 1) ≤ 2 ^ 7 = pow_mono {i = k - 1} {j = 7} less in
    omega arith

-- a region in a window is short
record IsShort (r : Region) : Type 0 where
  across : r.x1 ≤ℤ (r.x0 +ℤ pos 254)
  along : r.y1 ≤ℤ (r.y0 +ℤ pos 254)

short_in_window : (k level : ℕ) (x y : ℤ) (r : Region) → k ≤ 8 → Within (window k level x y) r → IsShort r
unfolding window
short_in_window k level x y r h w =
    let half : half_width k ≤ 127 = short_half k h in
    record { across = omega (arith, ints); along = omega (arith, ints) }

few_if_short : (r : Region) → IsShort r → blocks_between r.x0 r.x1 * blocks_between r.y0 r.y1 ≤ 1089
few_if_short r s =
    few_times (blocks_between r.x0 r.x1) (blocks_between r.y0 r.y1) (few_blocks r.x0 r.x1 s.across) (few_blocks r.y0 r.y1 s.along)

pub windows_have_few_pieces : WindowsHaveFewPieces
windows_have_few_pieces k level x y r h inside =
    elim (cases_Bool (is_empty r)) [
      | inl e ↦ let none : length (pieces r) ≡ 0 = ap length (pieces_none r e) in omega arith
      | inr e ↦
          let count : length (pieces r) ≡ blocks_between r.x0 r.x1 * blocks_between r.y0 r.y1 = ap length (pieces_some r e) ∙ count_rows r in
          let few : blocks_between r.x0 r.x1 * blocks_between r.y0 r.y1 ≤ 1089 = few_if_short r (short_in_window k level x y r h (within (window k level x y) r inside e)) in
          omega arith
    ]
