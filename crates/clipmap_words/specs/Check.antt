-- The words of `check`.
use Rattle.std.specs.Prelude.{ℕ, Option, Some, None, List, [], ◌∷◌, if◌then◌else◌}
use Rattle.clipmap_words.specs.Names.{is_name}
use Rattle.clipmap_words.specs.declared.check.CheckWords.{CheckWords}

-- the words `check FILE`, read
pub record CheckView : Type 0 where
  pub file : List ℕ

-- the words after `check`, where they are one name
unfoldable pub check_of : List (List ℕ) → Option CheckView
check_of (file ∷ []) = if is_name file then Some (record { file = file }) else None
check_of _ = None

-- the word of a `check`, as a name
abbrev pub check_view : CheckWords → CheckView
check_view check = record { file = check.file.now }
