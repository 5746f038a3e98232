-- The text of a height is read as that height.
use Rattle.std.proofs.Common.{◌≡◌, ℕ, ℤ, pos, negsuc, ◌+◌, ◌-◌, ◌*◌, ◌/◌, ◌%◌, ◌^◌, ◌<◌, ◌≤◌, suc, Bool, true, false, ◌&&◌, nat_eq, nat_le, nat_lt, List, [], ◌∷◌, ◌++◌, All, length, get_or, Some, codes, decimal, refl, sym, ap, subst, ◌∙◌, arith, append_assoc}
use borrow.Author.Differences.{ints}
use Rattle.std.specs.Option.{option_map, option_and_then}
use Rattle.std.proofs.lemmas.Bool.{and_from, le-leb}
use Rattle.std.proofs.lemmas.Bool.Decides.{nat_tests}
use Rattle.std.proofs.lemmas.Fmt.{decimal_digit, decimal_step, decimal_nonempty}
use Rattle.std.proofs.lemmas.List.Elements.{All-append, All-cons, All-nil}
use Rattle.number_words.specs.Numbers.{natural_of}
use Rattle.mesh_laws.specs.Conditions.{IsAtMost}
use Rattle.mesh_model.specs.Text.{five_digits, height_text}
use Rattle.mesh_lists.specs.Lines.{parts_at}
use Rattle.mesh_lists.specs.Says.{where_true, five_of, size_of, below_zero, height_of}
use Rattle.frame_lists.proofs.Words.{IsHigh, IsDigit, NaturalsAreRead, all_apart, lower, decimal_digits, decimal_high, parts_last, parts_more}

-- ---- five digits
-- one digit more
digit_more : (n m d : ℕ) (front : List ℕ) → 10 ≤ n → n < 2 ^ 64 → n / 10 ≡ m → n % 10 ≡ d → decimal m ≡ front → decimal n ≡ front ++ (48 + d) ∷ []
digit_more n m d front many small tens ones is =
    decimal_step n many small ∙ (λ t. decimal (tens t) ++ (48 + ones t) ∷ []) ∙ ap (λ (text : List ℕ). text ++ (48 + d) ∷ []) is

-- five digits behind a 1 are a number from 100,000 to 199,999
five_behind : (n : ℕ) → n < 100000 → decimal (100000 + n) ≡ 49 ∷ five_digits n
unfolding five_digits
five_behind n small =
    let one : decimal 1 ≡ 49 ∷ [] = decimal_digit 1 (omega arith) in
    let a : decimal (10 + n / 10000) ≡ 49 ∷ (48 + n / 10000) ∷ [] = digit_more (10 + n / 10000) 1 (n / 10000) (49 ∷ []) (omega arith) (omega arith) (omega arith) (omega arith) one in
    let b : decimal (100 + n / 1000) ≡ 49 ∷ (48 + n / 10000) ∷ (48 + n / 1000 % 10) ∷ [] =
    digit_more (100 + n / 1000) (10 + n / 10000) (n / 1000 % 10) (49 ∷ (48 + n / 10000) ∷ []) (omega arith) (omega arith) (omega arith) (omega arith) a in
    let c : decimal (1000 + n / 100) ≡ 49 ∷ (48 + n / 10000) ∷ (48 + n / 1000 % 10) ∷ (48 + n / 100 % 10) ∷ [] =
    digit_more (1000 + n / 100) (100 + n / 1000) (n / 100 % 10) (49 ∷ (48 + n / 10000) ∷ (48 + n / 1000 % 10) ∷ []) (omega arith) (omega arith) (omega arith) (omega arith) b in
    let e : decimal (10000 + n / 10) ≡ 49 ∷ (48 + n / 10000) ∷ (48 + n / 1000 % 10) ∷ (48 + n / 100 % 10) ∷ (48 + n / 10 % 10) ∷ [] =
    digit_more (10000 + n / 10) (1000 + n / 100) (n / 10 % 10) (49 ∷ (48 + n / 10000) ∷ (48 + n / 1000 % 10) ∷ (48 + n / 100 % 10) ∷ []) (omega arith) (omega arith) (omega arith) (omega arith) c in
    digit_more (100000 + n) (10000 + n / 10) (n % 10) (49 ∷ (48 + n / 10000) ∷ (48 + n / 1000 % 10) ∷ (48 + n / 100 % 10) ∷ (48 + n / 10 % 10) ∷ []) (omega arith) (omega arith) (omega arith) (omega arith) e

five_read : NaturalsAreRead → (n : ℕ) → n < 100000 → five_of (five_digits n) ≡ Some n
unfolding five_of five_digits
five_read naturals n small =
    let read : natural_of 100000 199999 (49 ∷ five_digits n) ≡ Some (100000 + n) =
    ap (natural_of 100000 199999) (sym (five_behind n small)) ∙ naturals 100000 199999 (100000 + n) (omega arith) (omega arith) (omega arith) in
    let back : 100000 + n - 100000 ≡ n = omega arith in
    ap (option_map (λ n. n - 100000)) read ∙ ap Some back

five_high : (n : ℕ) → All IsDigit (five_digits n)
unfolding five_digits
five_high n =
    let e : List ℕ = (48 + n % 10) ∷ [] in
    let d : List ℕ = (48 + n / 10 % 10) ∷ e in
    let c : List ℕ = (48 + n / 100 % 10) ∷ d in
    let b : List ℕ = (48 + n / 1000 % 10) ∷ c in
    All-cons IsDigit (48 + n / 10000) b (omega arith) (All-cons IsDigit (48 + n / 1000 % 10) c (omega arith)
    (All-cons IsDigit (48 + n / 100 % 10) d (omega arith) (All-cons IsDigit (48 + n / 10 % 10) e (omega arith)
    (All-cons IsDigit (48 + n % 10) [] (omega arith) (All-nil IsDigit)))))

-- ---- a size
-- a size without its sign
unfoldable pub size_text : ℕ → List ℕ
size_text size = decimal (size / 32) ++ codes "." ++ five_digits (size % 32 * 3125)

size_joined : (size : ℕ) → size_text size ≡ decimal (size / 32) ++ 46 ∷ five_digits (size % 32 * 3125)
unfolding size_text
size_joined size = append_assoc (decimal (size / 32)) (codes ".") (five_digits (size % 32 * 3125))

size_parts : (size : ℕ) → size ≤ 2 ^ 20 → parts_at 46 (size_text size) ≡ decimal (size / 32) ∷ five_digits (size % 32 * 3125) ∷ []
size_parts size small =
    let metres = decimal (size / 32) in
    let digits = five_digits (size % 32 * 3125) in
    ap (parts_at 46) (size_joined size)
    ∙ parts_more 46 metres digits refl (all_apart 48 46 metres (omega arith) (decimal_digits (size / 32) (omega arith)))
    ∙ ap (λ (more : List (List ℕ)). metres ∷ more) (parts_last 46 digits (all_apart 48 46 digits (omega arith) (five_high (size % 32 * 3125))))

where_holds : {A : Type 0} (test : Bool) (value : A) → test ≡ true → where_true test value ≡ Some value
where_holds true value holds = refl
where_holds false value holds = cc

size_by : (size n : ℕ) → size ≤ 2 ^ 20 → n ≡ size % 32 * 3125 →
    where_true (nat_eq (n % 3125) 0 && nat_le (32 * (size / 32) + n / 3125) (2 ^ 20)) (32 * (size / 32) + n / 3125) ≡ Some size
size_by size n small is =
    let rest : n % 3125 ≡ 0 = omega arith in
    let whole : 32 * (size / 32) + n / 3125 ≡ size = omega arith in
    let whole_steps : nat_eq (n % 3125) 0 ≡ true = grind (arith, nat_tests) in
    let within : nat_le (32 * (size / 32) + n / 3125) (2 ^ 20) ≡ true = le-leb (32 * (size / 32) + n / 3125) (2 ^ 20) (omega arith) in
    where_holds (nat_eq (n % 3125) 0 && nat_le (32 * (size / 32) + n / 3125) (2 ^ 20)) (32 * (size / 32) + n / 3125)
    (and_from (nat_eq (n % 3125) 0) (nat_le (32 * (size / 32) + n / 3125) (2 ^ 20)) whole_steps within)
    ∙ ap Some whole

size_read : NaturalsAreRead → (size : ℕ) → size ≤ 2 ^ 20 → size_of (parts_at 46 (size_text size)) ≡ Some size
unfolding size_of
size_read naturals size small =
    let metres : natural_of 0 32768 (decimal (size / 32)) ≡ Some (size / 32) = naturals 0 32768 (size / 32) (omega arith) (omega arith) (omega arith) in
    let digits : five_of (five_digits (size % 32 * 3125)) ≡ Some (size % 32 * 3125) = five_read naturals (size % 32 * 3125) (omega arith) in
    ap size_of (size_parts size small) ∙ rw (metres, digits) (size_by size (size % 32 * 3125) small refl)

-- ---- a height
-- a text that begins with a digit has no sign
unsigned : (text : List ℕ) → 0 < length text → 48 ≤ get_or text 0 0 → height_of text ≡ option_map pos (size_of (parts_at 46 text))
unfolding height_of
unsigned [] some digit = absurd (omega (arith, some))
unsigned (b ∷ more) some digit = let test : nat_eq b 45 ≡ false = grind (arith, nat_tests) in rw test refl

first_of : (text rest : List ℕ) → 0 < length text → All IsDigit text → (0 < length (text ++ rest)) × (48 ≤ get_or (text ++ rest) 0 0)
first_of [] rest some digits = absurd (omega (arith, some))
first_of (b ∷ text) rest some digits = let h : 48 ≤ b = digits 0 0 (omega arith) in (omega arith, h)

size_first : (size : ℕ) → size ≤ 2 ^ 20 → (0 < length (size_text size)) × (48 ≤ get_or (size_text size) 0 0)
size_first size small =
    let P : List ℕ → Type 0 = λ text. (0 < length text) × (48 ≤ get_or text 0 0) in
    subst P (sym (size_joined size))
    (first_of (decimal (size / 32)) (46 ∷ five_digits (size % 32 * 3125)) (decimal_nonempty (size / 32) (omega arith)) (decimal_digits (size / 32) (omega arith)))

size_high : (size : ℕ) → size ≤ 2 ^ 20 → All IsHigh (size_text size)
size_high size small =
    subst (λ (text : List ℕ). All IsHigh text) (sym (size_joined size))
    (All-append IsHigh (decimal (size / 32)) (46 ∷ five_digits (size % 32 * 3125)) (decimal_high (size / 32) (omega arith))
    (All-cons IsHigh 46 (five_digits (size % 32 * 3125)) (omega arith) (lower 48 45 (five_digits (size % 32 * 3125)) (omega arith) (five_high (size % 32 * 3125)))))

pub height_high : (height : ℤ) → IsAtMost (2 ^ 20) height → All IsHigh (height_text height)
unfolding height_text size_text
height_high (pos n) h = size_high n (omega (arith, ints, h.high))
height_high (negsuc n) h = All-cons IsHigh 45 (size_text (suc n)) (omega arith) (size_high (suc n) (omega (arith, ints, h.low)))

below_some : (n : ℕ) → below_zero (suc n) ≡ Some (negsuc n)
below_some n = let some : nat_lt 0 (suc n) ≡ true = grind (arith, nat_tests) in where_holds (nat_lt 0 (suc n)) (negsuc n) some

pub height_read : NaturalsAreRead → (height : ℤ) → IsAtMost (2 ^ 20) height → height_of (height_text height) ≡ Some height
unfolding height_text height_of size_text
height_read naturals (pos n) h =
    let small : n ≤ 2 ^ 20 = omega (arith, ints, h.high) in
    let first = size_first n small in
    unsigned (size_text n) first.0 first.1 ∙ ap (option_map pos) (size_read naturals n small)
height_read naturals (negsuc n) h =
    let small : suc n ≤ 2 ^ 20 = omega (arith, ints, h.low) in
    let read : size_of (parts_at 46 (size_text (suc n))) ≡ Some (suc n) = size_read naturals (suc n) small in
    ap (option_and_then below_zero) read ∙ below_some n
