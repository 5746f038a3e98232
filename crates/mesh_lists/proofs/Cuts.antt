-- Texts cut at a byte.
use Rattle.std.proofs.Common.{◌≡◌, ◌⊎◌, inl, inr, ℕ, ◌+◌, ◌<◌, suc, Bool, true, false, not, cond, Decides, nat_eq, List, [], ◌∷◌, length, take, drop, get_or, length-drop, ◌-◌, refl, sym, ap, ◌∙◌, subst, arith}
use Rattle.std.specs.List.{slice_split, onto_first, position_or_len}
use Rattle.std.proofs.lemmas.List.Sums.{position_or_len_is}
use Rattle.std.proofs.lemmas.List.{length-take, drop-drop, take_all, drop_all}
use Rattle.std.proofs.lemmas.Slice.{between_to_end}
use Rattle.std.proofs.lemmas.Bool.{false_from_ne_true}
use Rattle.memchr.specs.Find.{NoneBefore, Nowhere, Passes, is_byte}
use Rattle.std.proofs.lemmas.Bool.Decides.{Decides-eqb}
use Rattle.mesh_lists.specs.Lines.{all_but_last, last_part, whole_lines, cut_line, parts_at, parts_after}

-- what a test of equality says
pub unequal : (b : Bool) (x y : ℕ) → Decides b (x ≡ y) → (x ≡ y → ⊥) → b ≡ false
unequal true x y d other = absurd (other (d.0 refl))
unequal false x y d other = refl

-- the first place of a byte
pub first_place : (text : List ℕ) (byte i : ℕ) → i < length text → ((k : ℕ) → k < i → get_or text k 0 ≡ byte → ⊥) → get_or text i 0 ≡ byte →
    position_or_len (λ b. nat_eq b byte) text ≡ i
first_place text byte i within before here =
    position_or_len_is (λ b. nat_eq b byte) text i 0 (omega arith)
    (λ k h. unequal _ (get_or text k 0) byte (Decides-eqb (get_or text k 0) byte) (before k h))
    (λ _. (Decides-eqb (get_or text i 0) byte).1 here)

-- a byte that isn't there
pub no_place : (text : List ℕ) (byte : ℕ) → ((k : ℕ) → k < length text → get_or text k 0 ≡ byte → ⊥) →
    position_or_len (λ b. nat_eq b byte) text ≡ length text
no_place text byte none =
    position_or_len_is (λ b. nat_eq b byte) text (length text) 0 (omega arith)
    (λ k h. unequal _ (get_or text k 0) byte (Decides-eqb (get_or text k 0) byte) (none k h))
    (λ (h : length text < length text). absurd (omega arith))

-- the parts behind the first one: none, or those of the text after the byte
abbrev pub behind : (ℕ → Bool) → List ℕ → List (List ℕ)
behind p [] = []
behind p (x ∷ more) = slice_split p more

cut_by : (p : ℕ → Bool) (b : Bool) (n x : ℕ) (xs : List ℕ) → slice_split p xs ≡ take n xs ∷ behind p (drop n xs) →
    cond b ([] ∷ slice_split p xs) (onto_first x (slice_split p xs)) ≡ take (cond (not b) (1 + n) 0) (x ∷ xs) ∷ behind p (drop (cond (not b) (1 + n) 0) (x ∷ xs))
cut_by p true n x xs more = refl
cut_by p false n x xs more =
    let P : List (List ℕ) → Type 0 = λ parts. onto_first x parts ≡ take (1 + n) (x ∷ xs) ∷ behind p (drop (1 + n) (x ∷ xs)) in
    let Q : ℕ → Type 0 = λ m. (x ∷ take n xs) ∷ behind p (drop n xs) ≡ take m (x ∷ xs) ∷ behind p (drop m (x ∷ xs)) in
    let next : suc n ≡ 1 + n = omega arith in
    subst P (sym more) (subst Q next refl)

-- the parts of a text are what stands before the first place, and those behind it
pub parts_cut : (p : ℕ → Bool) (xs : List ℕ) → slice_split p xs ≡ take (position_or_len p xs) xs ∷ behind p (drop (position_or_len p xs) xs)
parts_cut p [] = refl
parts_cut p (x ∷ xs) = cut_by p (p x) (position_or_len p xs) x xs (parts_cut p xs)

same : (byte : ℕ) (rest : List ℕ) → behind (λ b. nat_eq b byte) rest ≡ parts_after byte rest
unfolding parts_at
same byte [] = refl
same byte (x ∷ more) = refl

-- the parts of a text
pub parts_cut_at : (byte : ℕ) (text : List ℕ) (n : ℕ) → n ≡ position_or_len (λ b. nat_eq b byte) text → parts_at byte text ≡ take n text ∷ parts_after byte (drop n text)
unfolding parts_at
parts_cut_at byte text n is =
    let m = position_or_len (λ b. nat_eq b byte) text in
    let P : ℕ → Type 0 = λ m. parts_at byte text ≡ take m text ∷ parts_after byte (drop m text) in
    subst P (sym is) (parts_cut (λ b. nat_eq b byte) text ∙ ap (λ (more : List (List ℕ)). take m text ∷ more) (same byte (drop m text)))

-- a text from a place to its end
pub to_end : (text : List ℕ) (n : ℕ) → take (length text - n) (drop n text) ≡ drop n text
to_end text n = between_to_end text n (length text) (omega arith)

-- a part in front of the parts of a text
lines_more : (p : ℕ → Bool) (front text : List ℕ) → all_but_last (front ∷ slice_split p text) ≡ front ∷ all_but_last (slice_split p text)
lines_more p front text =
    let P : List (List ℕ) → Type 0 = λ parts. all_but_last (front ∷ parts) ≡ front ∷ all_but_last parts in
    subst P (sym (parts_cut p text)) refl

end_more : (p : ℕ → Bool) (front text : List ℕ) → last_part (front ∷ slice_split p text) ≡ last_part (slice_split p text)
end_more p front text =
    let P : List (List ℕ) → Type 0 = λ parts. last_part (front ∷ parts) ≡ last_part parts in
    subst P (sym (parts_cut p text)) refl

behind_some : (p : ℕ → Bool) (rest : List ℕ) → 0 < length rest → behind p rest ≡ slice_split p (drop 1 rest)
behind_some p [] some = absurd (omega arith)
behind_some p (x ∷ more) some = refl

-- the parts behind a place within a text
behind_place : (p : ℕ → Bool) (text : List ℕ) (n : ℕ) → n < length text → behind p (drop n text) ≡ slice_split p (drop (n + 1) text)
behind_place p text n within = behind_some p (drop n text) (omega (arith, length-drop n text)) ∙ ap (slice_split p) (drop-drop 1 n text)

-- the lines of a text with a line feed
pub lines_cut : (text : List ℕ) (n : ℕ) → n ≡ position_or_len (λ b. nat_eq b 10) text → n < length text → whole_lines text ≡ take n text ∷ whole_lines (drop (n + 1) text)
unfolding whole_lines parts_at
lines_cut text n is within =
    let p : ℕ → Bool = λ b. nat_eq b 10 in
    let P : ℕ → Type 0 = λ m. slice_split p text ≡ take m text ∷ behind p (drop m text) in
    let parts = subst P (sym is) (parts_cut p text) ∙ ap (λ (more : List (List ℕ)). take n text ∷ more) (behind_place p text n within) in
    ap all_but_last parts ∙ lines_more p (take n text) (drop (n + 1) text)

pub end_cut : (text : List ℕ) (n : ℕ) → n ≡ position_or_len (λ b. nat_eq b 10) text → n < length text → cut_line text ≡ cut_line (drop (n + 1) text)
unfolding cut_line parts_at
end_cut text n is within =
    let p : ℕ → Bool = λ b. nat_eq b 10 in
    let P : ℕ → Type 0 = λ m. slice_split p text ≡ take m text ∷ behind p (drop m text) in
    let parts = subst P (sym is) (parts_cut p text) ∙ ap (λ (more : List (List ℕ)). take n text ∷ more) (behind_place p text n within) in
    ap last_part parts ∙ end_more p (take n text) (drop (n + 1) text)

all_of : (p : ℕ → Bool) (text : List ℕ) → take (length text) text ∷ behind p (drop (length text) text) ≡ text ∷ []
all_of p [] = refl
all_of p (b ∷ text) =
    let front : take (suc (length text)) (b ∷ text) ≡ b ∷ text = take_all (suc (length text)) (b ∷ text) (omega arith) in
    let rest : drop (suc (length text)) (b ∷ text) ≡ [] = drop_all (suc (length text)) (b ∷ text) (omega arith) in
    rw (front, rest) refl

-- a text without a line feed is one part
one_part : (p : ℕ → Bool) (text : List ℕ) → position_or_len p text ≡ length text → slice_split p text ≡ text ∷ []
one_part p text none =
    let P : ℕ → Type 0 = λ m. slice_split p text ≡ take m text ∷ behind p (drop m text) in
    subst P none (parts_cut p text) ∙ all_of p text

pub no_lines : (text : List ℕ) (n : ℕ) → n ≡ position_or_len (λ b. nat_eq b 10) text → n ≡ length text → whole_lines text ≡ []
unfolding whole_lines parts_at
no_lines text n is all = ap all_but_last (one_part (λ b. nat_eq b 10) text (sym is ∙ all))

pub only_end : (text : List ℕ) (n : ℕ) → n ≡ position_or_len (λ b. nat_eq b 10) text → n ≡ length text → cut_line text ≡ text
unfolding cut_line parts_at
only_end text n is all = ap last_part (one_part (λ b. nat_eq b 10) text (sym is ∙ all))

-- the parts of an empty text
pub no_text : (text : List ℕ) → length text ≡ 0 → (whole_lines text ≡ []) × (cut_line text ≡ [])
unfolding whole_lines cut_line parts_at
no_text [] none = (refl, refl)
no_text (b ∷ text) none = let zero : suc (length text) ≡ 0 = none in absurd (omega arith)

pub empty_lines : (text : List ℕ) → true ≡ nat_eq (length text) 0 → whole_lines text ≡ []
empty_lines text none = (no_text text ((Decides-eqb (length text) 0).0 (sym none))).0

-- a text that isn't empty has a line, or something behind its last line feed
some_by : (p : ℕ → Bool) (text front rest : List ℕ) → slice_split p text ≡ front ∷ behind p rest → 0 < length front + length rest →
    (0 < length (all_but_last (slice_split p text))) ⊎ ((length (all_but_last (slice_split p text)) ≡ 0) × (0 < length (last_part (slice_split p text))))
some_by p text front [] is some =
    let lines : length (all_but_last (slice_split p text)) ≡ 0 = ap (λ (parts : List (List ℕ)). length (all_but_last parts)) is in
    let end : length (last_part (slice_split p text)) ≡ length front = ap (λ (parts : List (List ℕ)). length (last_part parts)) is in
    inr (lines, omega (arith, end))
some_by p text front (x ∷ more) is some =
    let lines : length (all_but_last (slice_split p text)) ≡ length (front ∷ all_but_last (slice_split p more)) =
    ap length (ap all_but_last is ∙ lines_more p front more) in
    inl (omega (arith, lines))

pub some_left : (text : List ℕ) → 0 < length text → (0 < length (whole_lines text)) ⊎ ((length (whole_lines text) ≡ 0) × (0 < length (cut_line text)))
unfolding whole_lines cut_line parts_at
some_left text some =
    let p : ℕ → Bool = λ b. nat_eq b 10 in
    let n = position_or_len p text in
    some_by p text (take n text) (drop n text) (parts_cut p text) (omega (arith, length-take n text, length-drop n text))

-- a search that finds a byte finds its first place
pub found_byte : (text : List ℕ) (byte i : ℕ) → NoneBefore (Passes (is_byte byte) text) 0 (length text) i × Passes (is_byte byte) text i → i ≡ position_or_len (λ b. nat_eq b byte) text
found_byte text byte i found =
    sym (position_or_len_is (λ b. nat_eq b byte) text i 0 (let high = found.0.high in omega arith)
    (λ k h. false_from_ne_true (nat_eq (get_or text k 0) byte) (found.0.before k (omega arith) h)) (λ _. found.1))

-- and one that doesn't finds none
pub no_byte : (text : List ℕ) (byte : ℕ) → Nowhere (Passes (is_byte byte) text) 0 (length text) → length text ≡ position_or_len (λ b. nat_eq b byte) text
no_byte text byte none =
    sym (position_or_len_is (λ b. nat_eq b byte) text (length text) 0 (omega arith)
    (λ k h. false_from_ne_true (nat_eq (get_or text k 0) byte) (none k (omega arith) h)) (λ (h : length text < length text). absurd (omega arith)))
