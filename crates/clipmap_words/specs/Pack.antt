-- The words of `pack`.
use Rattle.std.specs.Prelude.{ℕ, ◌≤◌, Option, Some, None, List, ◌∷◌, ◌&&◌, if◌then◌else◌, option_and_then, length, map, string_bytes}
use Rattle.number_words.specs.Numbers.{natural_of}
use Rattle.clipmap_words.specs.Names.{is_name, is_inputs}
use Rattle.clipmap_words.specs.declared.pack.PackWords.{PackWords}

-- the words `pack L OUT INPUT+`, read
pub record PackView : Type 0 where
  pub levels : ℕ
  pub out : List ℕ
  pub inputs : List (List ℕ)

-- the levels of a `pack` are in range, and it has no more than 64 inputs
pub record IsPackInRange (pack : PackView) : Type 0 where
  pub levels_low : 1 ≤ pack.levels
  pub levels_high : pack.levels ≤ 12
  pub few_inputs : length pack.inputs ≤ 64

-- the names of a `pack` with so many levels, where they are names and inputs
abbrev pub pack_with : ℕ → List ℕ → List (List ℕ) → Option PackView
pack_with levels out inputs =
    if is_name out && is_inputs inputs
    then Some (record { levels = levels; out = out; inputs = inputs })
    else None

-- the words after `pack`, where they are well spelled and in range
unfoldable pub pack_of : List (List ℕ) → Option PackView
pack_of (levels ∷ out ∷ inputs) = option_and_then (λ levels. pack_with levels out inputs) (natural_of 1 12 levels)
pack_of _ = None

-- the words of a `pack`, as their number, names and inputs
abbrev pub pack_view : PackWords → PackView
pack_view pack = record { levels = pack.levels; out = pack.out.now; inputs = map string_bytes pack.inputs.now }
