-- The bytes of heights as they are, read back.
use Rattle.std.proofs.Common.{◌≡◌, Bool, true, false, cond, ltb, ℕ, ◌+◌, ◌-◌, ◌*◌, ◌/◌, ◌%◌, ◌<◌, ◌≤◌, ℤ, pos, negsuc, nat_abs, ◌+ℤ◌, ◌-ℤ◌, FitsSigned, List, [], ◌∷◌, length, get_or, take, refl, ap, ap₂, sym, ◌∙◌, subst, arith, length-append}
use Rattle.std.specs.Int.{w16}
use Rattle.std.specs.List.{flat_map}
use Rattle.std.proofs.lemmas.Int.{ints}
use Rattle.std.proofs.lemmas.Bool.Decides.{nat_tests}
use Rattle.std.proofs.lemmas.List.{length-take-le}
use Rattle.std.proofs.lemmas.List.Concat.{get_or-flat_map}
use Rattle.std.proofs.lemmas.List.FromFn.{length-map-range_with_len, get_or-map-range_with_len}
use Rattle.clip_regions.specs.declared.region.Region.{Region}
use Rattle.clip_regions.specs.Regions.{contains, columns, rows, numbers_from}
use Rattle.terrain_model.specs.Tile.{signed_pair, raw_sample}
use Rattle.store_model.specs.Blocks.{signed_bytes, plain_bytes}
use Rattle.block_heights.specs.Pieces.{plain_height}
use Rattle.store_reader.proofs.CellNumbers.{numbered}

-- ---- a number of 16 bits and its two bytes
signed_two : (a : ℤ) → length (signed_bytes a) ≡ 2
unfolding signed_bytes
signed_two (pos a) = refl
signed_two (negsuc a) = refl

low_half : (high low : ℕ) → high < 128 → signed_pair high low ≡ pos (256 * high + low)
unfolding signed_pair
low_half high low h = let t : ltb high 128 ≡ true = grind (arith, nat_tests) in ap (λ (b : Bool). cond b (pos (256 * high + low)) (pos (256 * high + low) -ℤ pos 65536)) t

high_half : (high low : ℕ) → 128 ≤ high → signed_pair high low ≡ pos (256 * high + low) -ℤ pos 65536
unfolding signed_pair
high_half high low h = let t : ltb high 128 ≡ false = grind (arith, nat_tests) in ap (λ (b : Bool). cond b (pos (256 * high + low)) (pos (256 * high + low) -ℤ pos 65536)) t

pair_of : (h : ℤ) → FitsSigned w16 h → signed_pair (get_or (signed_bytes h) 0 0) (get_or (signed_bytes h) 1 0) ≡ h
unfolding signed_bytes
pair_of (pos n) fits =
    let few : n < 32768 = omega (arith, ints) in
    let whole : 256 * (n / 256) + n % 256 ≡ n = omega arith in
    low_half (n / 256) (n % 256) (omega arith) ∙ ap pos whole
pair_of (negsuc n) fits =
    let few : n < 32768 = omega (arith, ints) in
    let high : 128 ≤ 255 - n / 256 = omega arith in
    let whole : 256 * (255 - n / 256) + (255 - n % 256) ≡ 65535 - n = omega arith in
    let back : pos (65535 - n) -ℤ pos 65536 ≡ negsuc n = omega (arith, ints) in
    high_half (255 - n / 256) (255 - n % 256) high ∙ ap (λ (m : ℕ). pos m -ℤ pos 65536) whole ∙ back

-- ---- a byte of the list
flat_even : {A : Type 0} (f : A → List ℕ) (m : ℕ) (xs : List A) → ((x : A) → length (f x) ≡ m) → length (flat_map f xs) ≡ length xs * m
flat_even f m [] h = omega arith
flat_even f m (x ∷ xs) h =
    let first = h x in
    let rest : length (flat_map f xs) ≡ length xs * m = flat_even f m xs h in
    omega (arith, length-append (f x) (flat_map f xs))

numbers_length : (a : ℤ) (n : ℕ) → length (numbers_from a n) ≡ n
numbers_length a n = length-map-range_with_len (λ i. a +ℤ pos i) 0 n

number_at : (a : ℤ) (n i : ℕ) → i < n → get_or (numbers_from a n) i (pos 0) ≡ a +ℤ pos i
number_at a n i h = get_or-map-range_with_len (λ (k : ℕ). a +ℤ pos k) 0 n i i (pos 0) h (omega arith)

part_at : (f : ℤ → List ℕ) (m : ℕ) (a : ℤ) (n i t : ℕ) → ((x : ℤ) → length (f x) ≡ m) → i < n → t < m → get_or (flat_map f (numbers_from a n)) (i * m + t) 0 ≡ get_or (f (a +ℤ pos i)) t 0
part_at f m a n i t size h below =
    let xs = numbers_from a n in
    let many : length xs ≡ n = numbers_length a n in
    let before : length (take i xs) ≡ i = length-take-le i xs (omega (arith, many)) in
    let place : length (flat_map f (take i xs)) ≡ i * m = flat_even f m (take i xs) size ∙ ap (λ (k : ℕ). k * m) before in
    let inside : t < length (f (get_or xs i (pos 0))) = subst (λ (k : ℕ). t < k) (sym (size (get_or xs i (pos 0)))) below in
    ap (λ (k : ℕ). get_or (flat_map f xs) (k + t) 0) (sym place)
    ∙ get_or-flat_map f xs i t (pos 0) 0 (omega (arith, many)) inside
    ∙ ap (λ (x : ℤ). get_or (f x) t 0) (number_at a n i h)

row_size : (heights : ℤ → ℤ → ℤ) (r : Region) (j : ℤ) → length (flat_map (λ i. signed_bytes (heights i j)) (numbers_from r.x0 (columns r))) ≡ columns r * 2
row_size heights r j =
    flat_even (λ i. signed_bytes (heights i j)) 2 (numbers_from r.x0 (columns r)) (λ i. signed_two (heights i j)) ∙ ap (λ (n : ℕ). n * 2) (numbers_length r.x0 (columns r))

byte_at : (heights : ℤ → ℤ → ℤ) (r : Region) (a b t : ℕ) → a < columns r → b < rows r → t < 2 → get_or (plain_bytes heights r) (b * (columns r * 2) + (a * 2 + t)) 0 ≡ get_or (signed_bytes (heights (r.x0 +ℤ pos a) (r.y0 +ℤ pos b))) t 0
unfolding plain_bytes
byte_at heights r a b t across down below =
    let inside : a * 2 + t < columns r * 2 = omega arith in
    part_at (λ j. flat_map (λ i. signed_bytes (heights i j)) (numbers_from r.x0 (columns r))) (columns r * 2) r.y0 (rows r) b (a * 2 + t) (λ j. row_size heights r j) down inside
    ∙ part_at (λ i. signed_bytes (heights i (r.y0 +ℤ pos b))) 2 r.x0 (columns r) a t (λ i. signed_two (heights i (r.y0 +ℤ pos b))) across below

-- ---- a height of the list
sample_at : (heights : ℤ → ℤ → ℤ) (r : Region) (a b : ℕ) → FitsSigned w16 (heights (r.x0 +ℤ pos a) (r.y0 +ℤ pos b)) → a < columns r → b < rows r → raw_sample (plain_bytes heights r) (b * columns r + a) ≡ heights (r.x0 +ℤ pos a) (r.y0 +ℤ pos b)
unfolding raw_sample
sample_at heights r a b fits across down =
    let h = heights (r.x0 +ℤ pos a) (r.y0 +ℤ pos b) in
    let first : 2 * (b * columns r + a) ≡ b * (columns r * 2) + (a * 2 + 0) = grind arith in
    let second : 2 * (b * columns r + a) + 1 ≡ b * (columns r * 2) + (a * 2 + 1) = grind arith in
    let high = ap (λ (k : ℕ). get_or (plain_bytes heights r) k 0) first ∙ byte_at heights r a b 0 across down (omega arith) in
    let low = ap (λ (k : ℕ). get_or (plain_bytes heights r) k 0) second ∙ byte_at heights r a b 1 across down (omega arith) in
    ap₂ signed_pair high low ∙ pair_of h fits

place_at : (bytes : List ℕ) (r : Region) (a b : ℕ) → plain_height bytes r (r.x0 +ℤ pos a) (r.y0 +ℤ pos b) ≡ raw_sample bytes (b * columns r + a)
unfolding plain_height
place_at bytes r a b =
    let column : nat_abs (r.x0 +ℤ pos a -ℤ r.x0) ≡ a = ap nat_abs (back r.x0 a) in
    let row : nat_abs (r.y0 +ℤ pos b -ℤ r.y0) ≡ b = ap nat_abs (back r.y0 b) in
    ap₂ (λ (m n : ℕ). raw_sample bytes (m * columns r + n)) row column
  where
    back : (x : ℤ) (n : ℕ) → x +ℤ pos n -ℤ x ≡ pos n
    back x n = omega (arith, ints)

pub plain_height_is : (heights : ℤ → ℤ → ℤ) (r : Region) (i j : ℤ) → ((a b : ℤ) → FitsSigned w16 (heights a b)) → contains r i j ≡ true → plain_height (plain_bytes heights r) r i j ≡ heights i j
plain_height_is heights r i j fits inside =
    let c = numbered r i j inside in
    let here : plain_height (plain_bytes heights r) r (r.x0 +ℤ pos c.a) (r.y0 +ℤ pos c.b) ≡ heights (r.x0 +ℤ pos c.a) (r.y0 +ℤ pos c.b) =
    place_at (plain_bytes heights r) r c.a c.b ∙ sample_at heights r c.a c.b (fits (r.x0 +ℤ pos c.a) (r.y0 +ℤ pos c.b)) c.across c.down in
    subst (λ (y : ℤ). plain_height (plain_bytes heights r) r i y ≡ heights i y) (sym c.row_at)
    (subst (λ (x : ℤ). plain_height (plain_bytes heights r) r x (r.y0 +ℤ pos c.b) ≡ heights x (r.y0 +ℤ pos c.b)) (sym c.column_at) here)
