-- The words of `fly`.
use Rattle.std.specs.Prelude.{ℕ, ◌≤◌, Option, Some, None, List, ◌∷◌, ◌&&◌, if◌then◌else◌, option_and_then, length, map, string_bytes}
use Rattle.number_words.specs.Numbers.{natural_of}
use Rattle.clipmap_words.specs.Names.{is_name, is_inputs}
use Rattle.clipmap_words.specs.declared.fly.FlyWords.{FlyWords}

-- the words `fly N SCRIPT OUT INPUT+`, read
pub record FlyView : Type 0 where
  pub workers : ℕ
  pub script : List ℕ
  pub out : List ℕ
  pub inputs : List (List ℕ)

-- a `fly` has 1 to 15 workers, and no more than 64 inputs
pub record IsFlyInRange (fly : FlyView) : Type 0 where
  pub workers_low : 1 ≤ fly.workers
  pub workers_high : fly.workers ≤ 15
  pub few_inputs : length fly.inputs ≤ 64

-- the names of a `fly` with so many workers, where they are names and inputs
abbrev pub fly_with : ℕ → List ℕ → List ℕ → List (List ℕ) → Option FlyView
fly_with workers script out inputs =
    if is_name script && is_name out && is_inputs inputs
    then Some (record { workers = workers; script = script; out = out; inputs = inputs })
    else None

-- the words after `fly`, where they are well spelled and in range
unfoldable pub fly_of : List (List ℕ) → Option FlyView
fly_of (workers ∷ script ∷ out ∷ inputs) =
    option_and_then (λ workers. fly_with workers script out inputs) (natural_of 1 15 workers)
fly_of _ = None

-- the words of a `fly`, as their number, names and inputs
abbrev pub fly_view : FlyWords → FlyView
fly_view fly = record {
  workers = fly.workers;
  script = fly.script.now;
  out = fly.out.now;
  inputs = map string_bytes fly.inputs.now;
}
