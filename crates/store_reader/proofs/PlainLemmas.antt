-- The bytes of a plain block are its heights.
use Rattle.std.proofs.Common.{◌≡◌, Bool, true, false, cond, ltb, ℕ, zero, suc, ◌+◌, ◌-◌, ◌*◌, ◌<◌, ◌≤◌, ℤ, pos, negsuc, nat_abs, ◌+ℤ◌, ◌-ℤ◌, ◌≤ℤ◌, List, [], ◌∷◌, ◌++◌, length, get_or, take, drop, map, refl, ap, sym, ◌∙◌, arith, take-add, drop-cons}
use Rattle.std.specs.List.{flat_map, range_with_len}
use Rattle.std.proofs.lemmas.Int.{ints}
use Rattle.std.proofs.lemmas.Bool.Decides.{nat_tests}
use Rattle.std.proofs.lemmas.List.{drop-drop}
use Rattle.std.proofs.lemmas.List.Folds.{flat_map-map}
use Rattle.std.proofs.Math.Nat.{mul-le-mul_right}
use mathlib.Core.Path.{ap₂}
use Rattle.clip_regions.specs.declared.region.Region.{Region}
use Rattle.clip_regions.specs.Regions.{contains, columns, rows, area}
use Rattle.terrain_model.specs.Tile.{signed_pair, raw_sample}
use Rattle.store_model.specs.Blocks.{signed_bytes, plain_bytes}
use Rattle.block_heights.specs.Pieces.{IsPieceUpTo, within, plain_height}
use Rattle.store_reader.specs.Decoding.{IsPlainOf}
use Rattle.store_reader.proofs.CellNumbers.{numbered_at, columns_is, rows_is, lying, piece_at}
use Rattle.store_reader.proofs.HeaderBytes.{take_all}
use Rattle.store_model.proofs.Stores.{flat_range_more}

pub flat_like : (f g : ℕ → List ℕ) (s n : ℕ) → ((k : ℕ) → s ≤ k → k < s + n → f k ≡ g k) → flat_map f (range_with_len s n) ≡ flat_map g (range_with_len s n)
flat_like f g s zero h = refl
flat_like f g s (suc n) h = ap₂ (λ (xs : List ℕ) (ys : List ℕ). xs ++ ys) (h s (omega arith) (omega arith)) (flat_like f g (s + 1) n (λ k l m. h k (omega arith) (omega arith)))

-- ---- a number of 16 bits and its two bytes
chosen_pair : (t : Bool) (high low : ℕ) → ltb high 128 ≡ t → high < 256 → low < 256 → signed_bytes (cond t (pos (256 * high + low)) (pos (256 * high + low) -ℤ pos 65536)) ≡ high ∷ low ∷ []
unfolding signed_bytes
chosen_pair true high low e h l = ap₂ (λ (a b : ℕ). a ∷ b ∷ []) (omega arith) (omega arith)
chosen_pair false high low e h l =
    let many : 128 ≤ high = grind (arith, nat_tests) in
    let back : pos (256 * high + low) -ℤ pos 65536 ≡ negsuc (65535 - (256 * high + low)) = omega (arith, ints) in
    rw back (ap₂ (λ (a b : ℕ). a ∷ b ∷ []) (omega arith) (omega arith))

pair_back : (high low : ℕ) → high < 256 → low < 256 → signed_bytes (signed_pair high low) ≡ high ∷ low ∷ []
unfolding signed_pair
pair_back high low h l = chosen_pair (ltb high 128) high low refl h l

module _ (bytes : List ℕ) (small : (i : ℕ) → get_or bytes i 0 < 256) where
  sample_bytes : (n : ℕ) → 2 * n + 1 < length bytes → signed_bytes (raw_sample bytes n) ≡ take 2 (drop (2 * n) bytes)
  unfolding raw_sample
  sample_bytes n h =
      let first : drop (2 * n) bytes ≡ get_or bytes (2 * n) 0 ∷ drop (suc (2 * n)) bytes = drop-cons bytes (2 * n) 0 (omega arith) in
      let second : drop (suc (2 * n)) bytes ≡ get_or bytes (suc (2 * n)) 0 ∷ drop (suc (suc (2 * n))) bytes = drop-cons bytes (suc (2 * n)) 0 (omega arith) in
      let next : 2 * n + 1 ≡ suc (2 * n) = omega arith in
      pair_back (get_or bytes (2 * n) 0) (get_or bytes (2 * n + 1) 0) (small (2 * n)) (small (2 * n + 1))
      ∙ ap (λ (m : ℕ). get_or bytes (2 * n) 0 ∷ get_or bytes m 0 ∷ []) next
      ∙ sym (ap (take 2) (first ∙ ap (λ (xs : List ℕ). get_or bytes (2 * n) 0 ∷ xs) second))

  row_bytes : (s n : ℕ) → 2 * (s + n) ≤ length bytes → flat_map (λ a. signed_bytes (raw_sample bytes (s + a))) (range_with_len 0 n) ≡ take (2 * n) (drop (2 * s) bytes)
  row_bytes s zero h = refl
  row_bytes s (suc n) h =
      let f = λ (a : ℕ). signed_bytes (raw_sample bytes (s + a)) in
      let next : n + 1 ≡ suc n = omega arith in
      let twice : 2 * n + 2 ≡ 2 * suc n = omega arith in
      let place : 2 * s + 2 * n ≡ 2 * (s + n) = omega arith in
      ap (λ (m : ℕ). flat_map f (range_with_len 0 m)) (sym next)
      ∙ flat_range_more f n
      ∙ ap₂ (λ (xs ys : List ℕ). xs ++ ys) (row_bytes s n (omega arith))
      (sample_bytes (s + n) (omega arith) ∙ ap (λ (m : ℕ). take 2 (drop m bytes)) (sym place) ∙ ap (take 2) (sym (drop-drop (2 * n) (2 * s) bytes)))
      ∙ sym (take-add (2 * n) 2 (drop (2 * s) bytes))
      ∙ ap (λ (m : ℕ). take m (drop (2 * s) bytes)) twice

  rows_bytes : (w n : ℕ) → flat_map (λ b. take (2 * w) (drop (2 * (b * w)) bytes)) (range_with_len 0 n) ≡ take (2 * (n * w)) bytes
  rows_bytes w zero = ap (λ (m : ℕ). take m bytes) none
    where
      none : 0 ≡ 2 * (0 * w)
      none = omega arith
  rows_bytes w (suc n) =
      let f = λ (b : ℕ). take (2 * w) (drop (2 * (b * w)) bytes) in
      let next : n + 1 ≡ suc n = omega arith in
      let more : 2 * (n * w) + 2 * w ≡ 2 * (suc n * w) = grind arith in
      ap (λ (m : ℕ). flat_map f (range_with_len 0 m)) (sym next)
      ∙ flat_range_more f n
      ∙ ap (λ (xs : List ℕ). xs ++ f n) (rows_bytes w n)
      ∙ sym (take-add (2 * (n * w)) (2 * w) bytes)
      ∙ ap (λ (m : ℕ). take m bytes) more

  plain_by_rows : (heights : ℤ → ℤ → ℤ) (r : Region) → plain_bytes heights r ≡ flat_map (λ b. flat_map (λ a. signed_bytes (heights (r.x0 +ℤ pos a) (r.y0 +ℤ pos b))) (range_with_len 0 (columns r))) (range_with_len 0 (rows r))
  unfolding plain_bytes
  plain_by_rows heights r =
      flat_map-map (λ j. flat_map (λ i. signed_bytes (heights i j)) (map (λ a. r.x0 +ℤ pos a) (range_with_len 0 (columns r)))) (λ b. r.y0 +ℤ pos b) (range_with_len 0 (rows r))
      ∙ (λ t. flat_map (λ b. flat_map-map (λ i. signed_bytes (heights i (r.y0 +ℤ pos b))) (λ a. r.x0 +ℤ pos a) (range_with_len 0 (columns r)) t) (range_with_len 0 (rows r)))

  plain_at : (r : Region) (a b : ℕ) → plain_height bytes r (r.x0 +ℤ pos a) (r.y0 +ℤ pos b) ≡ raw_sample bytes (b * columns r + a)
  unfolding plain_height
  plain_at r a b =
      let column : nat_abs (r.x0 +ℤ pos a -ℤ r.x0) ≡ a = ap nat_abs (back r.x0 a) in
      let row : nat_abs (r.y0 +ℤ pos b -ℤ r.y0) ≡ b = ap nat_abs (back r.y0 b) in
      ap₂ (λ (m n : ℕ). raw_sample bytes (m * columns r + n)) row column
    where
      back : (x : ℤ) (n : ℕ) → x +ℤ pos n -ℤ x ≡ pos n
      back x n = omega (arith, ints)

  cell_is : (heights : ℤ → ℤ → ℤ) (r : Region) (out : List ℤ) (a b : ℕ) → r.x0 ≤ℤ r.x1 → r.y0 ≤ℤ r.y1 → length out ≡ area r → IsPieceUpTo (length out) (within r (plain_height bytes r)) r out → IsPieceUpTo (length out) heights r out → a < columns r → b < rows r → heights (r.x0 +ℤ pos a) (r.y0 +ℤ pos b) ≡ raw_sample bytes (b * columns r + a)
  unfolding within
  cell_is heights r out a b x y e p q across down =
      let i = r.x0 +ℤ pos a in
      let j = r.y0 +ℤ pos b in
      let c = numbered_at r a b i j across down refl refl in
      let wide = columns_is r x in
      let high = rows_is r y in
      let inside : contains r i j ≡ true = lying r i j (record { west = omega (arith, ints); east = omega (arith, ints); north = omega (arith, ints); south = omega (arith, ints) }) in
      piece_at (length out) heights r out i j e q c
      ∙ sym (piece_at (length out) (within r (plain_height bytes r)) r out i j e p c)
      ∙ ap (λ (t : Bool). cond t (plain_height bytes r i j) (pos 0)) inside
      ∙ plain_at r a b

  pub plain_of : (r : Region) (out : List ℤ) → r.x0 ≤ℤ r.x1 → r.y0 ≤ℤ r.y1 → length out ≡ area r → length bytes ≡ 2 * area r → IsPieceUpTo (length out) (within r (plain_height bytes r)) r out → IsPlainOf r bytes out
  unfolding area
  plain_of r out x y e whole p heights q =
      let w = columns r in
      let n = rows r in
      let sizes : length bytes ≡ 2 * (n * w) = whole ∙ turned w n in
      let row : (b : ℕ) → 0 ≤ b → b < 0 + n → flat_map (λ a. signed_bytes (heights (r.x0 +ℤ pos a) (r.y0 +ℤ pos b))) (range_with_len 0 w) ≡ take (2 * w) (drop (2 * (b * w)) bytes) =
      λ b l h.
      let room : (b + 1) * w ≤ n * w = mul-le-mul_right w (omega arith) in
      let parts : (b + 1) * w ≡ b * w + w = grind arith in
      flat_like (λ a. signed_bytes (heights (r.x0 +ℤ pos a) (r.y0 +ℤ pos b))) (λ a. signed_bytes (raw_sample bytes (b * w + a))) 0 w
      (λ a m g. ap signed_bytes (cell_is heights r out a b x y e p q (omega arith) (omega arith)))
      ∙ row_bytes (b * w) w (omega arith) in
      sym (plain_by_rows heights r
      ∙ flat_like (λ b. flat_map (λ a. signed_bytes (heights (r.x0 +ℤ pos a) (r.y0 +ℤ pos b))) (range_with_len 0 w)) (λ b. take (2 * w) (drop (2 * (b * w)) bytes)) 0 n row
      ∙ rows_bytes w n
      ∙ take_all bytes (2 * (n * w)) (omega arith))
    where
      turned : (c d : ℕ) → 2 * (c * d) ≡ 2 * (d * c)
      turned c d = grind arith
