-- The pieces of a region: where each lies, and how many there are.
use Rattle.std.proofs.Common.{◌≡◌, ℕ, false, ◌+◌, ◌*◌, ◌<◌, ◌≤◌, ◌^◌, ℤ, pos, negsuc, ◌+ℤ◌, ◌-ℤ◌, ◌*ℤ◌, ◌≤ℤ◌, List, [], ◌∷◌, ◌++◌, flat_map, length, ap, sym, subst, inl, inr, arith}
use Rattle.std.specs.List.{All}
use Rattle.std.specs.Int.{int_gap}
use Rattle.std.proofs.lemmas.Int.{ints}
use Rattle.std.proofs.lemmas.Bool.{cases_Bool}
use Rattle.std.proofs.lemmas.List.{length-append, length-map}
use Rattle.std.proofs.lemmas.List.FromFn.{length-map-range_with_len}
use Rattle.std.proofs.lemmas.List.Elements.{All-nil, All-append, All-map, All-same}
use Rattle.std.proofs.Math.Nat.{mul-le-mul}
use Rattle.clip_regions.specs.declared.region.Region.{Region}
use Rattle.clip_regions.specs.FloorDivision.{floor_div, floor_rem}
use Rattle.clip_regions.specs.Regions.{is_empty, IsWithin}
use Rattle.plan_model.specs.Blocks.{block_cells}
use Rattle.plan_model.specs.Strips.{piece_in, block_columns, block_rows, pieces}
use Rattle.plan_model.specs.declared.tiles.Piece.{Piece}
use Rattle.plan_plain_pieces.specs.Placed.{IsShort}
use Rattle.plan_plain_pieces.proofs.Rows.{row, pieces_none}
use Rattle.plan_plain_pieces.proofs.Near.{meet_within}
use Rattle.clip_regions.proofs.Sizes.{gap_is}
use Rattle.plan_sound.proofs.Parts.{IsOrdered, ordered}

-- ---- what is true of each element of each row
all_rows : {X Y : Type 0} (P : Y → Type 0) (f : X → List Y) (xs : List X) → ((x : X) → All P (f x)) → All P (flat_map f xs)
all_rows P f [] each = All-nil P
all_rows P f (x ∷ xs) each = All-append P (f x) (flat_map f xs) (each x) (all_rows P f xs each)

abbrev pub IsNear : ℕ → Piece → Type 0
IsNear n piece = IsWithin n piece.cells

piece_near : (n : ℕ) (r : Region) (bx by : ℤ) → 1 ≤ n → IsWithin n r → IsNear n (piece_in r bx by)
unfolding piece_in
piece_near n r bx by h w = meet_within n r (block_cells bx by) h w

row_near : (n : ℕ) (r : Region) (by : ℤ) → 1 ≤ n → IsWithin n r → All (IsNear n) (row r by)
row_near n r by h w =
    All-map (IsNear n) (λ (bx : ℤ). piece_in r bx by) (block_columns r) (λ k d inside. piece_near n r _ by h w)

pub pieces_some : (r : Region) → is_empty r ≡ false → pieces r ≡ flat_map (row r) (block_rows r)
unfolding pieces
pieces_some r e = rw e

-- each piece lies as near the mosaic's corner as the region
pub pieces_near : (n : ℕ) (r : Region) → 1 ≤ n → IsWithin n r → All (IsNear n) (pieces r)
pieces_near n r h w =
    elim (cases_Bool (is_empty r)) [
      | inl e ↦ All-same (IsNear n) (pieces r) [] (pieces_none r e) (All-nil (IsNear n))
      | inr e ↦ All-same (IsNear n) (pieces r) (flat_map (row r) (block_rows r)) (pieces_some r e) (all_rows (IsNear n) (row r) (block_rows r) (λ (by : ℤ). row_near n r by h w))
    ]

-- ---- how many there are
rows_length : {X Y : Type 0} (f : X → List Y) (n : ℕ) (xs : List X) → ((x : X) → length (f x) ≡ n) → length (flat_map f xs) ≡ length xs * n
rows_length f n [] each = omega arith
rows_length f n (x ∷ xs) each =
    let whole : length (f x ++ flat_map f xs) ≡ length (f x) + length (flat_map f xs) = length-append (f x) (flat_map f xs) in
    let first : length (f x) ≡ n = each x in
    let rest : length (flat_map f xs) ≡ length xs * n = rows_length f n xs each in
    omega (arith, whole, first, rest)

rem_below : (a : ℤ) → floor_rem a 8 < 8
unfolding floor_rem
rem_below (pos n) = omega arith
rem_below (negsuc n) = omega arith

whole_is : (a : ℤ) → a ≡ pos 8 *ℤ floor_div a 8 +ℤ pos (floor_rem a 8)
unfolding floor_div floor_rem
whole_is (pos n) = omega (arith, ints)
whole_is (negsuc n) = omega (arith, ints)

-- no more than 33 blocks lie between two numbers that are no farther than 255 from each other
blocks_between : (a b : ℤ) → a ≤ℤ b → (b -ℤ a) ≤ℤ pos 255 → int_gap (floor_div a 8) (floor_div b 8 +ℤ pos 1) ≤ 33
blocks_between a b h k =
    let ra : floor_rem a 8 < 8 = rem_below a in
    let rb : floor_rem b 8 < 8 = rem_below b in
    let wa : a ≡ pos 8 *ℤ floor_div a 8 +ℤ pos (floor_rem a 8) = whole_is a in
    let wb : b ≡ pos 8 *ℤ floor_div b 8 +ℤ pos (floor_rem b 8) = whole_is b in
    let rises : floor_div a 8 ≤ℤ (floor_div b 8 +ℤ pos 1) = omega (arith, ints) in
    let gap : pos (int_gap (floor_div a 8) (floor_div b 8 +ℤ pos 1)) ≡ floor_div b 8 +ℤ pos 1 -ℤ floor_div a 8 = gap_is (floor_div a 8) (floor_div b 8 +ℤ pos 1) rises in
    omega (arith, ints)

columns_few : (r : Region) → IsOrdered r → IsShort r → length (block_columns r) ≤ 33
unfolding block_columns
columns_few r some short =
    subst (λ (n : ℕ). n ≤ 33) (sym (length-map-range_with_len (λ (i : ℕ). floor_div r.x0 8 +ℤ pos i) 0 (int_gap (floor_div r.x0 8) (floor_div r.x1 8 +ℤ pos 1)))) (blocks_between r.x0 r.x1 some.x short.columns)

rows_few : (r : Region) → IsOrdered r → IsShort r → length (block_rows r) ≤ 33
unfolding block_rows
rows_few r some short =
    subst (λ (n : ℕ). n ≤ 33) (sym (length-map-range_with_len (λ (i : ℕ). floor_div r.y0 8 +ℤ pos i) 0 (int_gap (floor_div r.y0 8) (floor_div r.y1 8 +ℤ pos 1)))) (blocks_between r.y0 r.y1 some.y short.rows)

some_few : (r : Region) → IsOrdered r → IsShort r → length (flat_map (row r) (block_rows r)) < 2 ^ 16
some_few r some short =
    let all : length (flat_map (row r) (block_rows r)) ≡ length (block_rows r) * length (block_columns r) = rows_length (row r) (length (block_columns r)) (block_rows r) (λ (by : ℤ). length-map (block_columns r) (λ (bx : ℤ). piece_in r bx by)) in
    let most : length (block_rows r) * length (block_columns r) ≤ 33 * 33 = mul-le-mul (rows_few r some short) (columns_few r some short) in
    omega (arith, all, most)

-- a short region has few pieces
pub pieces_few : (r : Region) → IsShort r → length (pieces r) < 2 ^ 16
pieces_few r short =
    elim (cases_Bool (is_empty r)) [
      | inl e ↦ let none : length (pieces r) ≡ 0 = ap length (pieces_none r e) in omega (arith, none)
      | inr e ↦ subst (λ (ps : List Piece). length ps < 2 ^ 16) (sym (pieces_some r e)) (some_few r (ordered r e) short)
    ]
