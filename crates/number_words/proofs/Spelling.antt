-- A word is read as a number where it is that number's decimal text, and as none where it is no number's in range.
use Rattle.std.proofs.Common.{◌≡◌, ℕ, ℤ, w64, FitsSigned, Result, Ok, Err, int_eq, ◌^◌, ◌<◌, ◌≤◌, Bool, true, false, not, List, Some, None, refl, sym, ap, ◌∙◌, subst, arith, ◌&&◌, if◌then◌else◌, nat_le, int_le, decimal, ◌≤ℤ◌}
use Rattle.std.specs.Fmt.{signed_decimal}
use Rattle.std.specs.Str.{bytes_eq}
use Rattle.std.specs.Str.Parse.{digits_value, signed_digits_value, without_leading_sign, IsNumeral}
use Rattle.std.specs.Bool.{Decides}
use lib.Signed.{mag}
use Rattle.std.proofs.lemmas.Bool.Decides.{Decides-int_eq}
use Rattle.std.proofs.lemmas.Bool.{false≢true, and_parts, and_from, leb-true, le-leb}
use Rattle.std.proofs.lemmas.Slice.Eq.{bytes_eq-Decides}
use borrow.Author.Differences.{ints}
use Rattle.std.proofs.lemmas.Fmt.{decimal_is_IsNumeral, parse-signed_decimal, IsAscii-decimal, IsAscii-signed}
use Rattle.std.specs.Str.{IsUtf8}
use Rattle.std.proofs.lemmas.Str.{IsUtf8-from_ascii}
use Rattle.number_words.specs.Numbers.{natural_of, whole_of}

-- no value where the test can't hold
pub none_unless : {A : Type 0} (b : Bool) (n : A) → (b ≡ true → Unit {0} → ⊥) → (if b then Some n else None) ≡ None
none_unless true n h = absurd (h refl tt)
none_unless false n h = refl

-- the value where the test holds
pub some_when : {A : Type 0} (b : Bool) (n : A) → b ≡ true → (if b then Some n else None) ≡ Some n
some_when true n h = refl
some_when false n h = cc

-- the order on whole numbers and its test
int_le_holds : (m n : ℤ) → m ≤ℤ n → int_le m n ≡ true
int_le_holds m n h = grind (arith, ints)

int_le_tells : (m n : ℤ) → int_le m n ≡ true → m ≤ℤ n
int_le_tells m n h = grind (arith, ints)

pub natural_of_text : (low high : ℕ) (word : List ℕ) (n : ℕ) → n < 2 ^ 64 → low ≤ n → n ≤ high → word ≡ decimal n → natural_of low high word ≡ Some n
natural_of_text low high word n small above below is =
    let value : digits_value 10 word ≡ n = ap (digits_value 10) is ∙ (decimal_is_IsNumeral n small).1 in
    let P : ℕ → Type 0 = λ m. (if nat_le low m && nat_le m high && bytes_eq (decimal m) word then Some m else None) ≡ Some n in
    subst P (sym value) (some_when _ n
    (and_from _ _ (and_from _ _ (le-leb low n above) (le-leb n high below)) ((bytes_eq-Decides (decimal n) word).1 (sym is))))

pub natural_of_other : (low high : ℕ) (word : List ℕ) → ((n : ℕ) → low ≤ n → n ≤ high → word ≡ decimal n → ⊥) → natural_of low high word ≡ None
natural_of_other low high word never =
    let n = digits_value 10 word in
    none_unless _ n (λ t _.
    let parts = and_parts (nat_le low n && nat_le n high) (bytes_eq (decimal n) word) t in
    let bounds = and_parts (nat_le low n) (nat_le n high) parts.0 in
    never n (leb-true low n bounds.0) (leb-true n high bounds.1) (sym ((bytes_eq-Decides (decimal n) word).0 parts.1)))

pub whole_of_text : (low high : ℤ) (word : List ℕ) (n : ℤ) → signed_digits_value 10 word ≡ n → low ≤ℤ n → n ≤ℤ high → word ≡ signed_decimal n → whole_of low high word ≡ Some n
whole_of_text low high word n value above below is =
    let P : ℤ → Type 0 = λ m. (if int_le low m && int_le m high && bytes_eq (signed_decimal m) word then Some m else None) ≡ Some n in
    subst P (sym value) (some_when _ n
    (and_from _ _ (and_from _ _ (int_le_holds low n above) (int_le_holds n high below)) ((bytes_eq-Decides (signed_decimal n) word).1 (sym is))))

pub whole_of_other : (low high : ℤ) (word : List ℕ) → ((n : ℤ) → low ≤ℤ n → n ≤ℤ high → word ≡ signed_decimal n → ⊥) → whole_of low high word ≡ None
whole_of_other low high word never =
    let n = signed_digits_value 10 word in
    none_unless _ n (λ t _.
    let parts = and_parts (int_le low n && int_le n high) (bytes_eq (signed_decimal n) word) t in
    let bounds = and_parts (int_le low n) (int_le n high) parts.0 in
    never n (int_le_tells low n bounds.0) (int_le_tells n high bounds.1) (sym ((bytes_eq-Decides (signed_decimal n) word).0 parts.1)))

-- an answer that negates a test is false where the test is true, and the test is true where the answer is false
pub not_true : (answer test : Bool) → answer ≡ not test → answer ≡ true → test ≡ true → ⊥
not_true answer true is said holds = false≢true (sym is ∙ said)
not_true answer false is said holds = false≢true holds

pub not_false : (answer test : Bool) → answer ≡ not test → answer ≡ false → test ≡ true
not_false answer true is said = refl
not_false answer false is said = sym said ∙ is

-- numbers are equal where they can't differ
same_by_test : (b : Bool) (v n : ℤ) → Decides b (v ≡ n) → ((v ≡ n → ⊥) → ⊥) → v ≡ n
same_by_test true v n d h = d.0 refl
same_by_test false v n d h = absurd (h (λ e. false≢true (d.1 e)))

-- the text of a number with a sign makes that number
pub signed_value : (n : ℤ) → FitsSigned w64 n → mag n < 2 ^ 63 → signed_digits_value 10 (signed_decimal n) ≡ n
signed_value n fits small =
    let v = signed_digits_value 10 (signed_decimal n) in
    let Read : Type 0 = IsNumeral 10 (without_leading_sign (signed_decimal n)) × FitsSigned w64 v in
    let read = λ (h : Read). parse-signed_decimal {E = ℕ} w64 n (signed_decimal n) (Ok v) fits small refl (h, refl) in
    same_by_test (int_eq v n) v n (Decides-int_eq v n) (λ other.
    let unread : Read → ⊥ = λ h. other (let e : ◌≡◌ {A = Result ℤ ℕ} (Ok v) (Ok n) = read h in cc) in
    let said : ◌≡◌ {A = Result ℤ ℕ} (Err 0) (Ok n) = parse-signed_decimal {E = ℕ} w64 n (signed_decimal n) (Err 0) fits small refl unread in
    cc)

-- the texts of numbers are UTF-8
pub IsUtf8-decimal : (n : ℕ) (word : List ℕ) → n < 2 ^ 64 → word ≡ decimal n → IsUtf8 word
IsUtf8-decimal n word small is =
    let P : List ℕ → Type 0 = λ text. IsUtf8 text in
    subst P (sym is) (IsUtf8-from_ascii (decimal n) (IsAscii-decimal n small))

pub IsUtf8-signed : (n : ℤ) (word : List ℕ) → mag n < 2 ^ 63 → word ≡ signed_decimal n → IsUtf8 word
IsUtf8-signed n word small is =
    let P : List ℕ → Type 0 = λ text. IsUtf8 text in
    subst P (sym is) (IsUtf8-from_ascii (signed_decimal n) (IsAscii-signed n small))
