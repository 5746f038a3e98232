-- The words of a command line, as far as they could be read.
use Rattle.std.specs.Prelude.{ℕ, List, [], map, string_bytes, String, Vec, Result, Ok, Err}
use Rattle.std.specs.declared.alloc.Global.{Global}
use Rattle.std.specs.declared.io.Error.{Error}

-- the words that were read; words that couldn't be read are no command, as no words are
abbrev pub words_told : Result (Vec (String Global) Global) Error → List (List ℕ)
words_told (Ok words) = map string_bytes words.items
words_told (Err _) = []
