-- The lines of a script, and the words of a line.
use Rattle.std.specs.Prelude.{◌≡◌, ℕ, Bool, true, ◌==◌, List, [], ◌∷◌, length, if◌then◌else◌}
use Rattle.std.specs.List.{slice_split}
use Rattle.clip_script.specs.declared.cut.Cut.{Cut}

-- what stands between one byte and the next one of its kind
abbrev pub parts_at : ℕ → List ℕ → List (List ℕ)
parts_at byte text = slice_split (λ b. b == byte) text

-- the parts without the last one, where that is empty
abbrev pub without_empty_end : List (List ℕ) → List (List ℕ)
without_empty_end [] = []
without_empty_end (part ∷ []) = if length part == 0 then [] else part ∷ []
without_empty_end (part ∷ next ∷ more) = part ∷ without_empty_end (next ∷ more)

-- the lines of a text: each ends with a line feed, and the last line feed may be missing
unfoldable pub lines : List ℕ → List (List ℕ)
lines text = without_empty_end (parts_at 10 text)

-- the words of a line: they stand apart by exactly one space, so that two spaces have an empty word between them
unfoldable pub words : List ℕ → List (List ℕ)
words line = parts_at 32 line

-- the words behind a word: none, or those after a space
abbrev pub words_after : List ℕ → List (List ℕ)
words_after [] = []
words_after (_ ∷ line) = words line

-- a cut is the next word behind a word, and what stands behind it
abbrev pub IsNextWord : List ℕ → Cut → Type 0
IsNextWord rest cut = words_after rest ≡ cut.front.now ∷ words_after cut.rest.now

-- a line that is skipped: it is empty or begins with `#`
abbrev pub is_skipped : List ℕ → Bool
is_skipped [] = true
is_skipped (b ∷ _) = b == 35
