-- The words of `info`.
use Rattle.std.specs.Prelude.{ℕ, ◌≤◌, Option, Some, None, List, if◌then◌else◌, length, map, string_bytes}
use Rattle.clipmap_words.specs.Names.{is_inputs}
use Rattle.clipmap_words.specs.declared.info.InfoWords.{InfoWords}

-- the words `info INPUT+`, read
pub record InfoView : Type 0 where
  pub inputs : List (List ℕ)

-- an `info` has no more than 64 inputs
pub record IsInfoInRange (info : InfoView) : Type 0 where
  pub few_inputs : length info.inputs ≤ 64

-- the words after `info`, where they are inputs
unfoldable pub info_of : List (List ℕ) → Option InfoView
info_of inputs = if is_inputs inputs then Some (record { inputs = inputs }) else None

-- the words of an `info`, as names
abbrev pub info_view : InfoWords → InfoView
info_view info = record { inputs = map string_bytes info.inputs.now }
