-- The words of `play`.
use Rattle.std.specs.Prelude.{ℕ, ◌≤◌, Option, Some, None, List, ◌∷◌, ◌&&◌, if◌then◌else◌, length, map, string_bytes}
use Rattle.clipmap_words.specs.Names.{is_name, is_inputs}
use Rattle.clipmap_words.specs.declared.play.PlayWords.{PlayWords}

-- the words `play SCRIPT OUT INPUT+`, read
pub record PlayView : Type 0 where
  pub script : List ℕ
  pub out : List ℕ
  pub inputs : List (List ℕ)

-- a `play` has no more than 64 inputs
pub record IsPlayInRange (play : PlayView) : Type 0 where
  pub few_inputs : length play.inputs ≤ 64

-- the words after `play`, where they are names and inputs
unfoldable pub play_of : List (List ℕ) → Option PlayView
play_of (script ∷ out ∷ inputs) =
    if is_name script && is_name out && is_inputs inputs
    then Some (record { script = script; out = out; inputs = inputs })
    else None
play_of _ = None

-- the words of a `play`, as names
abbrev pub play_view : PlayWords → PlayView
play_view play = record { script = play.script.now; out = play.out.now; inputs = map string_bytes play.inputs.now }
