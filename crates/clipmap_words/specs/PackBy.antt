-- The words of `packq`.
use Rattle.std.specs.Prelude.{◌≡◌, ℕ, ◌≤◌, ◌%◌, ◌==◌, Option, Some, None, List, ◌∷◌, ◌&&◌, if◌then◌else◌, option_and_then, length, map, string_bytes}
use Rattle.number_words.specs.Numbers.{natural_of}
use Rattle.clipmap_words.specs.Names.{is_name, is_inputs}
use Rattle.clipmap_words.specs.declared.pack_by.PackByWords.{PackByWords}

-- the words `packq L Q OUT INPUT+`, read
pub record PackByView : Type 0 where
  pub levels : ℕ
  pub step : ℕ
  pub out : List ℕ
  pub inputs : List (List ℕ)

-- the levels and the step of a `packq` are in range, and it has no more than 64 inputs
pub record IsPackByInRange (pack : PackByView) : Type 0 where
  pub levels_low : 1 ≤ pack.levels
  pub levels_high : pack.levels ≤ 12
  pub step_odd : pack.step % 2 ≡ 1
  pub step_high : pack.step ≤ 255
  pub few_inputs : length pack.inputs ≤ 64

-- a step in words: an odd number from 1 to 255
abbrev pub odd_step : ℕ → Option ℕ
odd_step step = if step % 2 == 1 then Some step else None

abbrev pub step_of : List ℕ → Option ℕ
step_of word = option_and_then odd_step (natural_of 1 255 word)

-- the names of a `packq` with these numbers, where they are names and inputs
abbrev pub pack_by_with : ℕ → ℕ → List ℕ → List (List ℕ) → Option PackByView
pack_by_with levels step out inputs =
    if is_name out && is_inputs inputs
    then Some (record { levels = levels; step = step; out = out; inputs = inputs })
    else None

-- the words after `packq`, where they are well spelled and in range
unfoldable pub pack_by_of : List (List ℕ) → Option PackByView
pack_by_of (levels ∷ step ∷ out ∷ inputs) =
    option_and_then (λ levels. option_and_then (λ step. pack_by_with levels step out inputs) (step_of step))
    (natural_of 1 12 levels)
pack_by_of _ = None

-- the words of a `packq`, as their numbers, names and inputs
abbrev pub pack_by_view : PackByWords → PackByView
pack_by_view pack = record {
  levels = pack.levels;
  step = pack.step;
  out = pack.out.now;
  inputs = map string_bytes pack.inputs.now;
}
