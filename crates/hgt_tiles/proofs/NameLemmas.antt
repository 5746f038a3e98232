-- The part of a word after its last `/`, by the place of that `/`.
use Rattle.std.proofs.Common.{◌≡◌, ◌≢◌, ℕ, ◌+◌, ◌-◌, ◌<◌, not, eqb, List, length, get_or, drop, true, false, ap, arith}
use Rattle.std.proofs.lemmas.Bool.Decides.{nat_tests}
use Rattle.std.proofs.lemmas.List.Sums.{suffix_len_is}
use Rattle.std.specs.List.{suffix_len}
use Rattle.terrain_model.specs.Name.{name_of_word}

is_other : (c : ℕ) → c ≢ 47 → not (eqb c 47) ≡ true
is_other c other = grind (arith, nat_tests)

is_slash : (c : ℕ) → c ≡ 47 → not (eqb c 47) ≡ false
is_slash c same = grind (arith, nat_tests)

-- a `/` stands at this place, and none after it
pub after_slash : (word : List ℕ) (slash : ℕ) → slash < length word → get_or word slash 0 ≡ 47 → ((i : ℕ) → slash < i → i < length word → get_or word i 0 ≢ 47) → drop (slash + 1) word ≡ name_of_word word
unfolding name_of_word
after_slash word slash in_word here none_later =
    let suffix : suffix_len (λ c. not (eqb c 47)) word ≡ length word - (slash + 1) =
    suffix_len_is (λ c. not (eqb c 47)) word (slash + 1) 0 (omega arith)
    (λ k after inside. is_other (get_or word k 0) (none_later k (omega arith) inside))
    (λ _. let e : slash + 1 - 1 ≡ slash = omega arith in rw e (is_slash (get_or word slash 0) here)) in
    let place : slash + 1 ≡ length word - suffix_len (λ c. not (eqb c 47)) word = omega arith in
    ap (λ n. drop n word) place

-- no `/` stands in the word
pub no_slash : (word : List ℕ) → ((i : ℕ) → i < length word → get_or word i 0 ≢ 47) → word ≡ name_of_word word
unfolding name_of_word
no_slash word none =
    let suffix : suffix_len (λ c. not (eqb c 47)) word ≡ length word - 0 =
    suffix_len_is (λ c. not (eqb c 47)) word 0 0 (omega arith) (λ k after inside. is_other (get_or word k 0) (none k inside)) (λ some. absurd (omega arith)) in
    let place : 0 ≡ length word - suffix_len (λ c. not (eqb c 47)) word = omega arith in
    ap (λ n. drop n word) place
