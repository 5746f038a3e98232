-- The lines of the levels, one level more at a time.
use Rattle.std.proofs.Common.{◌≡◌, ℕ, suc, ◌+◌, ◌<◌, List, [], ◌∷◌, ◌++◌, length, take, get_or, ap, sym, ◌∙◌, append_assoc, append-nil, arith}
use Rattle.std.proofs.lemmas.List.{take_more, length-take-le}
use Rattle.clip_regions.specs.declared.region.Region.{Region}
use Rattle.mesh_model.specs.Text.{level_line, level_lines}

lines_append : (n : ℕ) (xs ys : List Region) → level_lines n (xs ++ ys) ≡ level_lines n xs ++ level_lines (n + length xs) ys
lines_append n [] ys =
    let same : n ≡ n + 0 = omega arith in
    ap (λ (m : ℕ). level_lines m ys) same
lines_append n (x ∷ xs) ys =
    let same : n + 1 + length xs ≡ n + suc (length xs) = omega arith in
    ap (λ (rest : List ℕ). level_line n x ++ rest) (lines_append (n + 1) xs ys ∙ ap (λ (m : ℕ). level_lines (n + 1) xs ++ level_lines m ys) same)
    ∙ sym (append_assoc (level_line n x) (level_lines (n + 1) xs) (level_lines (n + suc (length xs)) ys))

pub lines_more : (level : ℕ) (xs : List Region) (d : Region) → level < length xs → level_lines 0 (take (level + 1) xs) ≡ level_lines 0 (take level xs) ++ level_line level (get_or xs level d)
lines_more level xs d inside =
    let front : length (take level xs) ≡ level = length-take-le level xs (omega arith) in
    let many : 0 + length (take level xs) ≡ level = omega (arith, front) in
    ap (level_lines 0) (take_more xs level d inside)
    ∙ lines_append 0 (take level xs) (get_or xs level d ∷ [])
    ∙ ap (λ (m : ℕ). level_lines 0 (take level xs) ++ level_lines m (get_or xs level d ∷ [])) many
    ∙ ap (λ (rest : List ℕ). level_lines 0 (take level xs) ++ rest) (append-nil (level_line level (get_or xs level d)))

-- what a text is after one line more
pub appended_level : (level : ℕ) (xs : List Region) (d r : Region) (old mid new : List ℕ) → level < length xs → mid ≡ old ++ level_lines 0 (take level xs) → r ≡ get_or xs level d → new ≡ mid ++ level_line level r → new ≡ old ++ level_lines 0 (take (level + 1) xs)
appended_level level xs d r old mid new inside before is last =
    last
    ∙ ap (λ (text : List ℕ). text ++ level_line level r) before
    ∙ append_assoc old (level_lines 0 (take level xs)) (level_line level r)
    ∙ ap (λ (q : Region). old ++ (level_lines 0 (take level xs) ++ level_line level q)) is
    ∙ ap (λ (text : List ℕ). old ++ text) (sym (lines_more level xs d inside))
