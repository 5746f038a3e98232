-- The lines of a text, and the words of a line.
use Rattle.std.specs.Prelude.{◌≡◌, ℕ, ◌+◌, ◌≤◌, ◌==◌, List, [], ◌∷◌, length, drop, Option, Some, None}
use Rattle.std.specs.List.{slice_split}

-- what stands between one byte and the next one of its kind
unfoldable pub parts_at : ℕ → List ℕ → List (List ℕ)
parts_at byte text = slice_split (λ b. b == byte) text

-- the parts but the last one
abbrev pub all_but_last : List (List ℕ) → List (List ℕ)
all_but_last [] = []
all_but_last (part ∷ []) = []
all_but_last (part ∷ next ∷ more) = part ∷ all_but_last (next ∷ more)

-- the last part
abbrev pub last_part : List (List ℕ) → List ℕ
last_part [] = []
last_part (part ∷ []) = part
last_part (part ∷ next ∷ more) = last_part (next ∷ more)

-- the lines of a text that end with a line feed, without it
unfoldable pub whole_lines : List ℕ → List (List ℕ)
whole_lines text = all_but_last (parts_at 10 text)

-- what stands behind the last line feed of a text
unfoldable pub cut_line : List ℕ → List ℕ
cut_line text = last_part (parts_at 10 text)

-- the words of a line: they stand apart by exactly one space, so that two spaces have an empty word between them
abbrev pub words : List ℕ → List (List ℕ)
words line = parts_at 32 line

-- the parts behind a part: none, or those after the byte that ends it
abbrev pub parts_after : ℕ → List ℕ → List (List ℕ)
parts_after byte [] = []
parts_after byte (_ ∷ text) = parts_at byte text

-- one value more in front, where there is one
abbrev pub onto : {A : Type 0} → Option A → List A → List A
onto None values = []
onto (Some value) values = value ∷ values

-- what the leading lines say, up to the first that says nothing
abbrev pub leading : {A : Type 0} → (List ℕ → Option A) → List (List ℕ) → List A
leading says [] = []
leading says (line ∷ lines) = onto (says line) (leading says lines)

-- a text's rest is what stands behind so many of its lines
pub record LeavesBehind (count : ℕ) (text rest : List ℕ) : Type 0 where
  pub lines : drop count (whole_lines text) ≡ whole_lines rest
  pub counted : length (whole_lines text) ≡ count + length (whole_lines rest)
  pub end : cut_line text ≡ cut_line rest
  pub shorter : length rest + count ≤ length text

-- it is what stands behind the first line
abbrev pub Follows : List ℕ → List ℕ → Type 0
Follows text rest = LeavesBehind 1 text rest
