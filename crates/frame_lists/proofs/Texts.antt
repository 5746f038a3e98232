-- The lines of a text that is printed line by line.
use Rattle.std.proofs.Common.{◌≡◌, ℕ, ◌≤◌, ◌<◌, Bool, true, nat_eq, nat_le, List, [], ◌∷◌, ◌++◌, All, length, map, flat_map, codes, refl, sym, ap, ◌∙◌, arith, append_assoc}
use Rattle.std.specs.List.{slice_split, list_all}
use Rattle.std.proofs.lemmas.Bool.{and_parts, leb-true}
use Rattle.std.proofs.lemmas.List.Concat.{flat_map-cons}
use Rattle.std.proofs.lemmas.List.Elements.{All-append, All-cons, All-nil, All-head, All-tail}
use Rattle.std.proofs.lemmas.List.Splits.{slice_split_at, length-slice_split}
use Rattle.mesh_lists.specs.Lines.{all_but_last, last_part, whole_lines, cut_line, parts_at}
use Rattle.frame_lists.proofs.Words.{IsHigh, all_apart, lower}

-- a byte of a line: a space or one behind it
abbrev pub IsWritten : ℕ → Type 0
IsWritten b = 32 ≤ b

abbrev pub IsLine : List ℕ → Type 0
IsLine line = All IsWritten line

pub high_written : (word : List ℕ) → All IsHigh word → IsLine word
high_written word high = lower 45 32 word (omega arith) high

pub written_by_test : (xs : List ℕ) → list_all (λ b. nat_le 32 b) xs ≡ true → IsLine xs
written_by_test [] test = All-nil IsWritten
written_by_test (b ∷ xs) test =
    let parts = and_parts (nat_le 32 b) (list_all (λ b. nat_le 32 b) xs) test in
    All-cons IsWritten b xs (leb-true 32 b parts.0) (written_by_test xs parts.1)

-- one text behind another, and with a space between them
pub behind_written : (front back : List ℕ) → IsLine front → IsLine back → IsLine (front ++ back)
behind_written front back a b = All-append IsWritten front back a b

pub spaced : (front back : List ℕ) → IsLine front → IsLine back → IsLine (front ++ codes " " ++ back)
spaced front back a b = behind_written (front ++ codes " ") back (behind_written front (codes " ") a (written_by_test (codes " ") refl)) b

-- lines, each with its line feed
abbrev pub printed : List (List ℕ) → List ℕ
printed [] = []
printed (line ∷ lines) = line ++ 10 ∷ printed lines

-- a part in front of some parts
part_in_front : (front : List ℕ) (parts : List (List ℕ)) → 0 < length parts → (all_but_last (front ∷ parts) ≡ front ∷ all_but_last parts) × (last_part (front ∷ parts) ≡ last_part parts)
part_in_front front [] some = absurd (omega (arith, some))
part_in_front front (part ∷ parts) some = (refl, refl)

line_in_front : (p : ℕ → Bool) (front text : List ℕ) →
    (all_but_last (front ∷ slice_split p text) ≡ front ∷ all_but_last (slice_split p text)) × (last_part (front ∷ slice_split p text) ≡ last_part (slice_split p text))
line_in_front p front text = part_in_front front (slice_split p text) (omega (arith, length-slice_split p text))

first_line : (line rest : List ℕ) → IsLine line → whole_lines (line ++ 10 ∷ rest) ≡ line ∷ whole_lines rest
unfolding whole_lines parts_at
first_line line rest written =
    let p : ℕ → Bool = λ b. nat_eq b 10 in
    ap all_but_last (slice_split_at p line 10 rest (all_apart 32 10 line (omega arith) written) refl) ∙ (line_in_front p line rest).0

same_end : (line rest : List ℕ) → IsLine line → cut_line (line ++ 10 ∷ rest) ≡ cut_line rest
unfolding cut_line parts_at
same_end line rest written =
    let p : ℕ → Bool = λ b. nat_eq b 10 in
    ap last_part (slice_split_at p line 10 rest (all_apart 32 10 line (omega arith) written) refl) ∙ (line_in_front p line rest).1

-- the lines of such a text are these, and nothing stands behind them
pub lines_are : (lines : List (List ℕ)) → All IsLine lines → whole_lines (printed lines) ≡ lines
unfolding whole_lines parts_at
lines_are [] all = refl
lines_are (line ∷ lines) all =
    first_line line (printed lines) (All-head IsLine line lines all) ∙ ap (λ (more : List (List ℕ)). line ∷ more) (lines_are lines (All-tail IsLine line lines all))

pub end_is : (lines : List (List ℕ)) → All IsLine lines → cut_line (printed lines) ≡ []
unfolding cut_line parts_at
end_is [] all = refl
end_is (line ∷ lines) all = same_end line (printed lines) (All-head IsLine line lines all) ∙ end_is lines (All-tail IsLine line lines all)

-- texts of more lines
pub printed_more : (lines more : List (List ℕ)) → printed (lines ++ more) ≡ printed lines ++ printed more
printed_more [] more = refl
printed_more (line ∷ lines) more =
    ap (λ (text : List ℕ). line ++ 10 ∷ text) (printed_more lines more) ∙ sym (append_assoc line (10 ∷ printed lines) (printed more))

pub line_printed : (line rest : List ℕ) → line ++ codes "\n" ++ rest ≡ line ++ 10 ∷ rest
line_printed line rest = append_assoc line (codes "\n") rest

pub all_printed : {A : Type 0} (said printed_as : A → List ℕ) (xs : List A) → ((x : A) → printed_as x ≡ said x ++ codes "\n") → flat_map printed_as xs ≡ printed (map said xs)
all_printed said printed_as [] each = refl
all_printed said printed_as (x ∷ xs) each =
    flat_map-cons printed_as x xs
    ∙ (λ t. each x t ++ all_printed said printed_as xs each t)
    ∙ line_printed (said x) (printed (map said xs))
