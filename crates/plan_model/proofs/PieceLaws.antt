-- The law of pieces: they cover a region. The count of the pieces that have a cell is a product of three: whether the region has the cell, and how often the cell's block column and block row are listed.
use Rattle.std.proofs.Common.{◌≡◌, ℕ, zero, suc, ◌+◌, ◌*◌, ◌<◌, ◌≤◌, Bool, true, false, cond, ◌&&◌, ℤ, pos, ◌+ℤ◌, ◌-ℤ◌, ◌*ℤ◌, ◌≤ℤ◌, ◌<ℤ◌, List, [], ◌∷◌, map, refl, ap, sym, ◌∙◌, inl, inr, arith, zero-add}
use Rattle.std.proofs.lemmas.Int.{ints}
use Rattle.std.proofs.lemmas.Bool.{cases_Bool, cases_eq}
use Rattle.std.proofs.lemmas.List.Sums.{sum_by-append}
use Rattle.std.proofs.Math.Nat.{mul_comm, mul_assoc}
use Rattle.std.specs.List.{flat_map, count_by, sum_by, range_with_len}
use Rattle.std.specs.Int.{int_gap}
use mathlib.Core.Path.{ap₂}
use lib.Signed.{le_z}
use Rattle.clip_regions.specs.declared.region.Region.{Region}
use Rattle.clip_regions.specs.FloorDivision.{floor_div, floor_rem}
use Rattle.clip_regions.specs.Regions.{contains, is_empty, meet, numbers_from}
use Rattle.plan_model.specs.Blocks.{same_number, block_cells}
use Rattle.plan_model.specs.Strips.{block_columns, block_rows, piece_in, pieces}
use Rattle.plan_model.specs.Laws.{PiecesPartition}
use Rattle.plan_model.specs.declared.tiles.Piece.{Piece}
use Rattle.plan_model.proofs.CoverLaws.{one_if, one_and, count_cons}
use Rattle.clip_regions.proofs.Quotients.{rem_below, quotient_and_rest}
use Rattle.clip_regions.proofs.Cells.{Lies, lies, none_in_empty, meet_cells}
use Rattle.clip_regions.proofs.Sizes.{gap_is}

-- ---- sums over lists
sum_cons : {X : Type 0} (g : X → ℕ) (x : X) (xs : List X) → sum_by g (x ∷ xs) ≡ g x + sum_by g xs
sum_cons g x xs = sum_by-append g (x ∷ []) xs ∙ ap (λ (n : ℕ). n + sum_by g xs) (zero-add (g x))

sum_same : {X : Type 0} (f g : X → ℕ) → ((x : X) → f x ≡ g x) → (xs : List X) → sum_by f xs ≡ sum_by g xs
sum_same f g each [] = refl
sum_same f g each (x ∷ xs) =
    sum_cons f x xs ∙ ap₂ (λ (a b : ℕ). a + b) (each x) (sum_same f g each xs) ∙ sym (sum_cons g x xs)

sum_scaled : {X : Type 0} (c : ℕ) (g : X → ℕ) (xs : List X) → sum_by (λ x. c * g x) xs ≡ c * sum_by g xs
sum_scaled c g [] = omega arith
sum_scaled c g (x ∷ xs) =
    let here : sum_by (λ y. c * g y) (x ∷ xs) ≡ c * g x + sum_by (λ y. c * g y) xs = sum_cons (λ y. c * g y) x xs in
    let rest : sum_by (λ y. c * g y) xs ≡ c * sum_by g xs = sum_scaled c g xs in
    let whole : c * sum_by g (x ∷ xs) ≡ c * (g x + sum_by g xs) = ap (λ (n : ℕ). c * n) (sum_cons g x xs) in
    omega (arith, here, rest, whole)

count_map : {X Y : Type 0} (p : Y → Bool) (h : X → Y) (xs : List X) → count_by p (map h xs) ≡ sum_by (λ x. one_if (p (h x))) xs
count_map p h [] = refl
count_map p h (x ∷ xs) =
    count_cons p (h x) (map h xs) ∙ ap (λ (n : ℕ). one_if (p (h x)) + n) (count_map p h xs) ∙ sym (sum_cons (λ y. one_if (p (h y))) x xs)

count_flat : {X Y : Type 0} (p : Y → Bool) (f : X → List Y) (xs : List X) → count_by p (flat_map f xs) ≡ sum_by (λ x. count_by p (f x)) xs
count_flat p f [] = refl
count_flat p f (x ∷ xs) =
    sum_by-append (λ y. cond (p y) 1 0) (f x) (flat_map f xs) ∙ ap (λ (n : ℕ). count_by p (f x) + n) (count_flat p f xs) ∙ sym (sum_cons (λ y. count_by p (f y)) x xs)

-- ---- how often a number is listed
same_yes : (a : ℤ) (m n : ℕ) → m ≡ n → same_number (a +ℤ pos m) (a +ℤ pos n) ≡ true
unfolding same_number
same_yes a m n e = grind (arith, ints)

same_no : (a : ℤ) (m n : ℕ) → (m ≡ n → ⊥) → same_number (a +ℤ pos m) (a +ℤ pos n) ≡ false
unfolding same_number
same_no a m n e = grind (arith, ints)

listed_before : (a : ℤ) (m s n : ℕ) → m < s → count_by (λ i. same_number (a +ℤ pos i) (a +ℤ pos m)) (range_with_len s n) ≡ 0
listed_before a m s zero h = refl
listed_before a m s (suc n) h =
    count_cons (λ (i : ℕ). same_number (a +ℤ pos i) (a +ℤ pos m)) s (range_with_len (s + 1) n) ∙ ap₂ (λ (b : Bool) (k : ℕ). one_if b + k) (same_no a s m (λ (e : s ≡ m). omega arith)) (listed_before a m (s + 1) n (omega arith))

listed_once : (a : ℤ) (m s n : ℕ) → s ≤ m → m < s + n → count_by (λ i. same_number (a +ℤ pos i) (a +ℤ pos m)) (range_with_len s n) ≡ 1
listed_once a m s zero h k = absurd (omega arith)
listed_once a m s (suc n) h k =
    elim (cases_eq s m) [
      | inl e ↦ count_cons (λ (i : ℕ). same_number (a +ℤ pos i) (a +ℤ pos m)) s (range_with_len (s + 1) n) ∙ ap₂ (λ (b : Bool) (c : ℕ). one_if b + c) (same_yes a s m e) (listed_before a m (s + 1) n (omega arith))
      | inr e ↦ count_cons (λ (i : ℕ). same_number (a +ℤ pos i) (a +ℤ pos m)) s (range_with_len (s + 1) n) ∙ ap₂ (λ (b : Bool) (c : ℕ). one_if b + c) (same_no a s m e) (listed_once a m (s + 1) n (omega arith) (omega arith))
    ]

listed_in : (a b : ℤ) (n : ℕ) → a ≤ℤ b → b <ℤ (a +ℤ pos n) → count_by (λ z. same_number z b) (numbers_from a n) ≡ 1
listed_in a b n low high =
    let gap : pos (int_gap a b) ≡ b -ℤ a = gap_is a b low in
    let at : b ≡ a +ℤ pos (int_gap a b) = omega (arith, ints) in
    let below : int_gap a b < 0 + n = omega (arith, ints) in
    ap (λ (z : ℤ). count_by (λ (y : ℤ). same_number y z) (numbers_from a n)) at ∙ count_map (λ (y : ℤ). same_number y (a +ℤ pos (int_gap a b))) (λ (i : ℕ). a +ℤ pos i) (range_with_len 0 n) ∙ listed_once a (int_gap a b) 0 n (omega arith) below

-- ---- blocks
floor_rises : (a b : ℤ) → a ≤ℤ b → floor_div a 8 ≤ℤ floor_div b 8
floor_rises a b h =
    let ra : floor_rem a 8 < 8 = rem_below a 8 (omega arith) in
    let rb : floor_rem b 8 < 8 = rem_below b 8 (omega arith) in
    let wa : a ≡ pos 8 *ℤ floor_div a 8 +ℤ pos (floor_rem a 8) = quotient_and_rest a 8 (omega arith) in
    let wb : b ≡ pos 8 *ℤ floor_div b 8 +ℤ pos (floor_rem b 8) = quotient_and_rest b 8 (omega arith) in
    omega (arith, ints)

-- the blocks of a range list the block of each number in it once
block_listed : (first last z : ℤ) → first ≤ℤ z → z ≤ℤ last → count_by (λ b. same_number b (floor_div z 8)) (numbers_from (floor_div first 8) (int_gap (floor_div first 8) (floor_div last 8 +ℤ pos 1))) ≡ 1
block_listed first last z low high =
    let from : floor_div first 8 ≤ℤ floor_div z 8 = floor_rises first z low in
    let to : floor_div z 8 ≤ℤ floor_div last 8 = floor_rises z last high in
    let count : pos (int_gap (floor_div first 8) (floor_div last 8 +ℤ pos 1)) ≡ floor_div last 8 +ℤ pos 1 -ℤ floor_div first 8 = gap_is (floor_div first 8) (floor_div last 8 +ℤ pos 1) (omega (arith, ints)) in
    listed_in (floor_div first 8) (floor_div z 8) (int_gap (floor_div first 8) (floor_div last 8 +ℤ pos 1)) from (omega (arith, ints))

in_block_of : (b z q : ℤ) (r : ℕ) → r < 8 → z ≡ pos 8 *ℤ q +ℤ pos r → (le_z (pos 8 *ℤ b) z && le_z z (pos 8 *ℤ b +ℤ pos 7)) ≡ (le_z b q && le_z q b)
in_block_of b z q r h e = grind (arith, ints)

-- a number lies among the eight of block b where b is its block
in_block : (b z : ℤ) → (le_z (pos 8 *ℤ b) z && le_z z (pos 8 *ℤ b +ℤ pos 7)) ≡ same_number b (floor_div z 8)
unfolding same_number
in_block b z = in_block_of b z (floor_div z 8) (floor_rem z 8) (rem_below z 8 (omega arith)) (quotient_and_rest z 8 (omega arith))

-- ---- pieces
block_one : (i j bx by : ℤ) → one_if (contains (block_cells bx by) i j) ≡ one_if (same_number bx (floor_div i 8)) * one_if (same_number by (floor_div j 8))
unfolding contains block_cells
block_one i j bx by =
    ap₂ (λ (a b : Bool). one_if (a && b)) (in_block bx i) (in_block by j) ∙ one_and (same_number bx (floor_div i 8)) (same_number by (floor_div j 8))

regroup : (a b c : ℕ) → a * (b * c) ≡ (a * c) * b
regroup a b c = ap (λ (n : ℕ). a * n) (mul_comm b c) ∙ sym (mul_assoc a c b)

swap_last : (a b c : ℕ) → (a * b) * c ≡ (a * c) * b
swap_last a b c = mul_assoc a b c ∙ regroup a b c

-- whether the piece of a block has a cell
piece_one : (r : Region) (i j bx by : ℤ) → one_if (contains (piece_in r bx by).cells i j) ≡ (one_if (contains r i j) * one_if (same_number by (floor_div j 8))) * one_if (same_number bx (floor_div i 8))
unfolding piece_in
piece_one r i j bx by =
    ap one_if (meet_cells r (block_cells bx by) (meet r (block_cells bx by)) refl i j) ∙ one_and (contains r i j) (contains (block_cells bx by) i j) ∙ ap (λ (n : ℕ). one_if (contains r i j) * n) (block_one i j bx by) ∙ regroup (one_if (contains r i j)) (one_if (same_number bx (floor_div i 8))) (one_if (same_number by (floor_div j 8)))

-- how often the cell's block column and block row are listed
columns_listed : Region → ℤ → ℕ
columns_listed r i = count_by (λ b. same_number b (floor_div i 8)) (block_columns r)

rows_listed : Region → ℤ → ℕ
rows_listed r j = count_by (λ b. same_number b (floor_div j 8)) (block_rows r)

row_count : (r : Region) (i j by : ℤ) → count_by (λ (piece : Piece). contains piece.cells i j) (map (λ bx. piece_in r bx by) (block_columns r)) ≡ (one_if (contains r i j) * columns_listed r i) * one_if (same_number by (floor_div j 8))
unfolding columns_listed
row_count r i j by =
    count_map (λ (piece : Piece). contains piece.cells i j) (λ (bx : ℤ). piece_in r bx by) (block_columns r) ∙ sum_same (λ (bx : ℤ). one_if (contains (piece_in r bx by).cells i j)) (λ (bx : ℤ). (one_if (contains r i j) * one_if (same_number by (floor_div j 8))) * one_if (same_number bx (floor_div i 8))) (λ (bx : ℤ). piece_one r i j bx by) (block_columns r) ∙ sum_scaled (one_if (contains r i j) * one_if (same_number by (floor_div j 8))) (λ (bx : ℤ). one_if (same_number bx (floor_div i 8))) (block_columns r) ∙ swap_last (one_if (contains r i j)) (one_if (same_number by (floor_div j 8))) (columns_listed r i)

unfoldable pub piece_rows : Region → List Piece
piece_rows r = flat_map (λ by. map (λ bx. piece_in r bx by) (block_columns r)) (block_rows r)

all_count : (r : Region) (i j : ℤ) → count_by (λ (piece : Piece). contains piece.cells i j) (piece_rows r) ≡ (one_if (contains r i j) * columns_listed r i) * rows_listed r j
unfolding piece_rows rows_listed
all_count r i j =
    count_flat (λ (piece : Piece). contains piece.cells i j) (λ (by : ℤ). map (λ (bx : ℤ). piece_in r bx by) (block_columns r)) (block_rows r) ∙ sum_same (λ (by : ℤ). count_by (λ (piece : Piece). contains piece.cells i j) (map (λ (bx : ℤ). piece_in r bx by) (block_columns r))) (λ (by : ℤ). (one_if (contains r i j) * columns_listed r i) * one_if (same_number by (floor_div j 8))) (λ (by : ℤ). row_count r i j by) (block_rows r) ∙ sum_scaled (one_if (contains r i j) * columns_listed r i) (λ (by : ℤ). one_if (same_number by (floor_div j 8))) (block_rows r)

column_once : (r : Region) (i j : ℤ) → Lies r i j → columns_listed r i ≡ 1
unfolding columns_listed block_columns
column_once r i j h = block_listed r.x0 r.x1 i h.west h.east

row_once : (r : Region) (i j : ℤ) → Lies r i j → rows_listed r j ≡ 1
unfolding rows_listed block_rows
row_once r i j h = block_listed r.y0 r.y1 j h.north h.south

nothing : (a b : ℕ) → (0 * a) * b ≡ 0
nothing a b = omega arith

product_of : (r : Region) (i j : ℤ) → (one_if (contains r i j) * columns_listed r i) * rows_listed r j ≡ one_if (contains r i j)
product_of r i j =
    elim (cases_Bool (contains r i j)) [
      | inl e ↦ let h : Lies r i j = lies r i j e in rw (e, column_once r i j h, row_once r i j h) refl
      | inr e ↦ rw e (nothing (columns_listed r i) (rows_listed r j))
    ]

pub pieces_some : (r : Region) → is_empty r ≡ false → pieces r ≡ piece_rows r
unfolding pieces piece_rows
pieces_some r e =
    ap (λ (b : Bool). cond b [] (flat_map (λ (by : ℤ). map (λ (bx : ℤ). piece_in r bx by) (block_columns r)) (block_rows r))) e

pub pieces_none : (r : Region) → is_empty r ≡ true → pieces r ≡ []
unfolding pieces
pieces_none r e =
    ap (λ (b : Bool). cond b [] (flat_map (λ (by : ℤ). map (λ (bx : ℤ). piece_in r bx by) (block_columns r)) (block_rows r))) e

pub pieces_partition : PiecesPartition
pieces_partition r i j =
    elim (cases_Bool (is_empty r)) [
      | inl e ↦ ap (count_by (λ (piece : Piece). contains piece.cells i j)) (pieces_none r e) ∙ sym (ap one_if (none_in_empty r i j e))
      | inr e ↦ ap (count_by (λ (piece : Piece). contains piece.cells i j)) (pieces_some r e) ∙ all_count r i j ∙ product_of r i j
    ]
