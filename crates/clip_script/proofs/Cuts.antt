-- Texts cut at a byte.
use Rattle.std.proofs.Common.{◌≡◌, ℕ, ◌+◌, ◌<◌, suc, Bool, true, false, not, cond, Decides, nat_eq, List, [], ◌∷◌, length, take, drop, get_or, length-drop, ◌-◌, refl, sym, ap, ◌∙◌, subst, arith}
use Rattle.std.specs.List.{slice_split, onto_first, position_or_len}
use Rattle.std.proofs.lemmas.List.Sums.{position_or_len_is}
use Rattle.std.proofs.lemmas.List.{length-take, drop-drop}
use Rattle.std.proofs.lemmas.Slice.{between_to_end}
use Rattle.std.proofs.lemmas.Bool.Decides.{Decides-eqb}
use Rattle.clip_script.specs.Lines.{without_empty_end, lines, words, words_after}

-- what a test of equality says
pub unequal : (b : Bool) (x y : ℕ) → Decides b (x ≡ y) → (x ≡ y → ⊥) → b ≡ false
unequal true x y d other = absurd (other (d.0 refl))
unequal false x y d other = refl

-- the first place of a byte
pub first_place : (text : List ℕ) (byte i : ℕ) → i < length text → ((k : ℕ) → k < i → get_or text k 0 ≡ byte → ⊥) → get_or text i 0 ≡ byte →
    position_or_len (λ b. nat_eq b byte) text ≡ i
first_place text byte i within before here =
    position_or_len_is (λ b. nat_eq b byte) text i 0 (omega arith)
    (λ k h. unequal _ (get_or text k 0) byte (Decides-eqb (get_or text k 0) byte) (before k h))
    (λ _. (Decides-eqb (get_or text i 0) byte).1 here)

-- a byte that isn't there
pub no_place : (text : List ℕ) (byte : ℕ) → ((k : ℕ) → k < length text → get_or text k 0 ≡ byte → ⊥) →
    position_or_len (λ b. nat_eq b byte) text ≡ length text
no_place text byte none =
    position_or_len_is (λ b. nat_eq b byte) text (length text) 0 (omega arith)
    (λ k h. unequal _ (get_or text k 0) byte (Decides-eqb (get_or text k 0) byte) (none k h))
    (λ (h : length text < length text). absurd (omega arith))

-- the parts behind the first one: none, or those of the text after the byte
abbrev pub behind : (ℕ → Bool) → List ℕ → List (List ℕ)
behind p [] = []
behind p (x ∷ more) = slice_split p more

cut_by : (p : ℕ → Bool) (b : Bool) (n x : ℕ) (xs : List ℕ) → slice_split p xs ≡ take n xs ∷ behind p (drop n xs) →
    cond b ([] ∷ slice_split p xs) (onto_first x (slice_split p xs)) ≡ take (cond (not b) (1 + n) 0) (x ∷ xs) ∷ behind p (drop (cond (not b) (1 + n) 0) (x ∷ xs))
cut_by p true n x xs more = refl
cut_by p false n x xs more =
    let P : List (List ℕ) → Type 0 = λ parts. onto_first x parts ≡ take (1 + n) (x ∷ xs) ∷ behind p (drop (1 + n) (x ∷ xs)) in
    let Q : ℕ → Type 0 = λ m. (x ∷ take n xs) ∷ behind p (drop n xs) ≡ take m (x ∷ xs) ∷ behind p (drop m (x ∷ xs)) in
    let next : suc n ≡ 1 + n = omega arith in
    subst P (sym more) (subst Q next refl)

-- the parts of a text are what stands before the first place, and those behind it
pub parts_cut : (p : ℕ → Bool) (xs : List ℕ) → slice_split p xs ≡ take (position_or_len p xs) xs ∷ behind p (drop (position_or_len p xs) xs)
parts_cut p [] = refl
parts_cut p (x ∷ xs) = cut_by p (p x) (position_or_len p xs) x xs (parts_cut p xs)

same : (rest : List ℕ) → behind (λ b. nat_eq b 32) rest ≡ words_after rest
unfolding words
same [] = refl
same (x ∷ more) = refl

-- the words of a line
pub words_cut : (line : List ℕ) (n : ℕ) → n ≡ position_or_len (λ b. nat_eq b 32) line → words line ≡ take n line ∷ words_after (drop n line)
unfolding words
words_cut line n is =
    let m = position_or_len (λ b. nat_eq b 32) line in
    let P : ℕ → Type 0 = λ m. words line ≡ take m line ∷ words_after (drop m line) in
    subst P (sym is) (parts_cut (λ b. nat_eq b 32) line ∙ ap (λ (more : List (List ℕ)). take m line ∷ more) (same (drop m line)))

-- a text without a byte is one line less than its parts
not_empty : (part : List ℕ) → 0 < length part → without_empty_end (part ∷ []) ≡ part ∷ []
not_empty [] some = absurd (omega arith)
not_empty (b ∷ part) some = grind arith

-- what a cut makes of the lines
lines_behind : (p : ℕ → Bool) (front rest : List ℕ) → 0 < length front + length rest →
    without_empty_end (front ∷ behind p rest) ≡ front ∷ without_empty_end (slice_split p (drop 1 rest))
lines_behind p front [] some = not_empty front (omega arith)
lines_behind p front (x ∷ more) some =
    let P : List (List ℕ) → Type 0 = λ parts. without_empty_end (front ∷ parts) ≡ front ∷ without_empty_end parts in
    subst P (sym (parts_cut p more)) refl

-- the lines of a text that isn't empty
pub lines_cut : (text : List ℕ) (n : ℕ) → n ≡ position_or_len (λ b. nat_eq b 10) text → 0 < length text → lines text ≡ take n text ∷ lines (drop (n + 1) text)
unfolding lines
lines_cut text n is some =
    let p : ℕ → Bool = λ b. nat_eq b 10 in
    let P : ℕ → Type 0 = λ m. lines text ≡ take m text ∷ without_empty_end (slice_split p (drop 1 (drop m text))) in
    let Q : List ℕ → Type 0 = λ rest. lines text ≡ take n text ∷ without_empty_end (slice_split p rest) in
    let m = position_or_len p text in
    let many : 0 < length (take m text) + length (drop m text) = omega (arith, length-take m text, length-drop m text) in
    subst Q (drop-drop 1 n text) (subst P (sym is) (ap without_empty_end (parts_cut p text) ∙ lines_behind p (take m text) (drop m text) many))

-- a text from a place to its end
pub to_end : (text : List ℕ) (n : ℕ) → take (length text - n) (drop n text) ≡ drop n text
to_end text n = between_to_end text n (length text) (omega arith)

-- the lines of an empty text
pub lines_none : (text : List ℕ) → true ≡ nat_eq (length text) 0 → lines text ≡ []
unfolding lines
lines_none [] none = refl
lines_none (b ∷ text) none = let zero : suc (length text) ≡ 0 = (Decides-eqb (suc (length text)) 0).0 (sym none) in absurd (omega arith)
