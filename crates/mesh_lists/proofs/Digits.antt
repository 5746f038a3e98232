-- Digits, and the number that they make.
use Rattle.std.proofs.Common.{◌≡◌, ℕ, ◌<◌, ◌≤◌, List, length, take, get_or, decimal, refl, sym, ap, ◌∙◌, subst, arith}
use Rattle.std.specs.Str.Parse.{AllDigits, digits_value}
use Rattle.std.proofs.lemmas.Fmt.{decimal-digits_value}
use Rattle.std.proofs.lemmas.Str.Parse.{IsNumeralModel}
use Rattle.std.proofs.lemmas.List.{take_all}

own : IsNumeralModel (AllDigits 10) (digits_value 10)
own = record { to = λ ds all. all; from = λ ds all. all; same = λ ds all. refl }

-- digits without a leading zero are the text of their number
pub text_of : (word : List ℕ) (i n : ℕ) → length word ≤ i → n ≡ digits_value 10 (take i word) → AllDigits 10 (take i word) → n < 1000000000 → 0 < length word → (get_or word 0 0 ≡ 48 → length word ≡ 1) →
    word ≡ decimal n
text_of word i n all value digits small some zero =
    let whole : take i word ≡ word = take_all i word all in
    let is : n ≡ digits_value 10 word = value ∙ ap (digits_value 10) whole in
    sym (ap decimal is ∙ decimal-digits_value own word (subst (AllDigits 10) whole digits) some zero (omega arith))
