-- Where a play script asks for a view.
use Rattle.std.specs.Prelude.{ℕ, ◌+◌, Bool, true, false, ◌||◌, List, [], ◌∷◌, codes}
use Rattle.std.specs.List.{position_or_len}
use Rattle.std.specs.Str.{bytes_eq}
use Rattle.clip_script.specs.Lines.{lines, words}
use Rattle.clip_script.specs.declared.step.Step.{Step}
use Rattle.clip_script.specs.declared.step.Step.TheVariants.{Book, See, EndSeen}

-- a step asks for a view
abbrev pub is_view : Step → Bool
is_view (Book pass event) = false
is_view (See view) = true
is_view (EndSeen pass) = true

-- the first word of a line asks for a view
abbrev pub asks_in_words : List (List ℕ) → Bool
asks_in_words [] = false
asks_in_words (name ∷ rest) = bytes_eq name (codes "see") || bytes_eq name (codes "endseen")

unfoldable pub asks_view : List ℕ → Bool
asks_view line = asks_in_words (words line)

-- the number of the first line that asks for a view, counted from 1: one more than there are lines, where none does
unfoldable pub view_line : List ℕ → ℕ
view_line text = position_or_len asks_view (lines text) + 1
