-- The words of a line that is printed of numbers.
use Rattle.std.proofs.Common.{◌≡◌, ℕ, ℤ, pos, negsuc, neg_ℤ, ◌+◌, ◌%◌, ◌^◌, ◌<◌, ◌≤◌, ◌≤ℤ◌, ◌<ℤ◌, suc, true, false, nat_eq, List, [], ◌∷◌, ◌++◌, All, get_or, Some, codes, decimal, refl, ap, ◌∙◌, arith, append_assoc}
use lib.Signed.{mag}
use borrow.Author.Differences.{ints}
use Rattle.std.specs.Fmt.{signed_decimal}
use Rattle.std.proofs.lemmas.Bool.{eqb-true, false_from_ne_true}
use Rattle.std.proofs.lemmas.Fmt.{decimal_by_steps}
use Rattle.std.proofs.lemmas.List.Elements.{All-append, All-cons, All-nil}
use Rattle.std.proofs.lemmas.List.Splits.{slice_split_at, slice_split_none}
use Rattle.number_words.specs.Numbers.{natural_of, whole_of}
use Rattle.mesh_lists.specs.Lines.{parts_at, words}

-- a byte of a number: a sign, a point or a digit
abbrev pub IsHigh : ℕ → Type 0
IsHigh b = 45 ≤ b

-- a digit or a byte behind it
abbrev pub IsDigit : ℕ → Type 0
IsDigit b = 48 ≤ b

-- bytes from a least one on aren't a lower byte
pub all_apart : (least byte : ℕ) (xs : List ℕ) → byte < least → All (λ b. least ≤ b) xs → All (λ b. nat_eq b byte ≡ false) xs
all_apart least byte xs low high k d within =
    let h = high k d within in
    false_from_ne_true (nat_eq (get_or xs k d) byte) (λ t. let e : get_or xs k d ≡ byte = eqb-true (get_or xs k d) byte t in omega (arith, h, e, low))

pub lower : (least less : ℕ) (xs : List ℕ) → less ≤ least → All (λ b. least ≤ b) xs → All (λ b. less ≤ b) xs
lower least less xs low high k d within = let h = high k d within in omega (arith, h, low)

-- texts of numbers
pub decimal_digits : (n : ℕ) → n < 2 ^ 64 → All IsDigit (decimal n)
decimal_digits = decimal_by_steps (λ n text. All IsDigit text)
    (λ n small. All-cons IsDigit (48 + n) [] (omega arith) (All-nil IsDigit))
    (λ n text many high. All-append IsDigit text ((48 + n % 10) ∷ []) high (All-cons IsDigit (48 + n % 10) [] (omega arith) (All-nil IsDigit)))

pub decimal_high : (n : ℕ) → n < 2 ^ 64 → All IsHigh (decimal n)
decimal_high n small = lower 48 45 (decimal n) (omega arith) (decimal_digits n small)

pub signed_high : (n : ℤ) → mag n < 2 ^ 63 → All IsHigh (signed_decimal n)
signed_high (pos n) small = decimal_high n (omega (arith, ints))
signed_high (negsuc n) small = All-cons IsHigh 45 (decimal (suc n)) (omega arith) (decimal_high (suc n) (omega (arith, ints)))

-- the parts of a text that has no such byte, and of one with that byte and more behind it
pub parts_last : (byte : ℕ) (part : List ℕ) → All (λ b. nat_eq b byte ≡ false) part → parts_at byte part ≡ part ∷ []
unfolding parts_at
parts_last byte part none = slice_split_none (λ b. nat_eq b byte) part none

pub parts_more : (byte : ℕ) (part rest : List ℕ) → nat_eq byte byte ≡ true → All (λ b. nat_eq b byte ≡ false) part → parts_at byte (part ++ byte ∷ rest) ≡ part ∷ parts_at byte rest
unfolding parts_at
parts_more byte part rest same none = slice_split_at (λ b. nat_eq b byte) part byte rest none same

-- the words of a number, and of one with a space and more behind it
pub word_last : (word : List ℕ) → All IsHigh word → words word ≡ word ∷ []
word_last word high = parts_last 32 word (all_apart 45 32 word (omega arith) high)

pub word_more : (word rest : List ℕ) → All IsHigh word → words (word ++ 32 ∷ rest) ≡ word ∷ words rest
word_more word rest high = parts_more 32 word rest refl (all_apart 45 32 word (omega arith) high)

-- what two and what four such words are
pub two_words : (a b : List ℕ) → All IsHigh a → All IsHigh b → words (a ++ 32 ∷ b) ≡ a ∷ b ∷ []
two_words a b ha hb = word_more a b ha ∙ ap (λ (more : List (List ℕ)). a ∷ more) (word_last b hb)

pub three_words : (a b c : List ℕ) → All IsHigh a → All IsHigh b → All IsHigh c → words (a ++ 32 ∷ (b ++ 32 ∷ c)) ≡ a ∷ b ∷ c ∷ []
three_words a b c ha hb hc = word_more a (b ++ 32 ∷ c) ha ∙ ap (λ (more : List (List ℕ)). a ∷ more) (two_words b c hb hc)

pub four_words : (a b c d : List ℕ) → All IsHigh a → All IsHigh b → All IsHigh c → All IsHigh d → words (a ++ 32 ∷ (b ++ 32 ∷ (c ++ 32 ∷ d))) ≡ a ∷ b ∷ c ∷ d ∷ []
four_words a b c d ha hb hc hd = word_more a (b ++ 32 ∷ (c ++ 32 ∷ d)) ha ∙ ap (λ (more : List (List ℕ)). a ∷ more) (three_words b c d hb hc hd)

-- numbers of 64 bits are read
abbrev pub NaturalsAreRead : Type 0
NaturalsAreRead = (low high n : ℕ) → n < 2 ^ 64 → low ≤ n → n ≤ high → natural_of low high (decimal n) ≡ Some n

abbrev pub WholesAreRead : Type 0
WholesAreRead = (low high n : ℤ) → neg_ℤ (pos (2 ^ 63)) ≤ℤ n → n <ℤ pos (2 ^ 63) → low ≤ℤ n → n ≤ℤ high → whole_of low high (signed_decimal n) ≡ Some n

-- texts that are put together from the left
pub joined_two : (a b : List ℕ) → a ++ codes " " ++ b ≡ a ++ 32 ∷ b
joined_two a b = append_assoc a (codes " ") b

pub joined_three : (a b c : List ℕ) → a ++ codes " " ++ b ++ codes " " ++ c ≡ a ++ 32 ∷ (b ++ 32 ∷ c)
joined_three a b c = append_assoc (a ++ codes " " ++ b) (codes " ") c ∙ append_assoc (a ++ codes " ") b (32 ∷ c) ∙ append_assoc a (codes " ") (b ++ 32 ∷ c)

pub joined_four : (a b c d : List ℕ) → a ++ codes " " ++ b ++ codes " " ++ c ++ codes " " ++ d ≡ a ++ 32 ∷ (b ++ 32 ∷ (c ++ 32 ∷ d))
joined_four a b c d =
    append_assoc (a ++ codes " " ++ b ++ codes " " ++ c) (codes " ") d ∙ append_assoc (a ++ codes " " ++ b ++ codes " ") c (32 ∷ d)
    ∙ joined_three a b (c ++ 32 ∷ d)
