-- The words of `swarm`.
use Rattle.std.specs.Prelude.{ℕ, ◌+◌, ◌≤◌, nat_le, Bool, false, Option, Some, None, List, [], ◌∷◌, ◌&&◌, if◌then◌else◌, option_and_then, length, map, codes, string_bytes}
use Rattle.std.specs.Str.{bytes_eq}
use Rattle.number_words.specs.Numbers.{natural_of}
use Rattle.clipmap_words.specs.Names.{is_name, is_inputs}
use Rattle.clipmap_words.specs.declared.swarm.SwarmWords.{SwarmWords}

-- the words `swarm N R SCRIPT OUT INPUT+`, read
pub record SwarmView : Type 0 where
  pub workers : ℕ
  pub renderers : ℕ
  pub script : List ℕ
  pub out : List ℕ
  pub inputs : List (List ℕ)

-- a `swarm` has a worker or more, at most 15 workers and renderers, and no more than 64 inputs
pub record IsSwarmInRange (swarm : SwarmView) : Type 0 where
  pub some_workers : 1 ≤ swarm.workers
  pub few_passes : swarm.workers + swarm.renderers ≤ 15
  pub few_inputs : length swarm.inputs ≤ 64

-- the names of a `swarm` with so many workers and renderers, where they aren't too many and these are names and inputs
abbrev pub swarm_with : ℕ → ℕ → List ℕ → List ℕ → List (List ℕ) → Option SwarmView
swarm_with workers renderers script out inputs =
    if nat_le (workers + renderers) 15 && (is_name script && is_name out && is_inputs inputs)
    then Some (record { workers = workers; renderers = renderers; script = script; out = out; inputs = inputs })
    else None

-- the words after `swarm`, where they are well spelled and in range
unfoldable pub swarm_of : List (List ℕ) → Option SwarmView
swarm_of (workers ∷ renderers ∷ script ∷ out ∷ inputs) =
    option_and_then (λ workers. option_and_then (λ renderers.
    swarm_with workers renderers script out inputs)
    (natural_of 0 14 renderers)) (natural_of 1 15 workers)
swarm_of _ = None

-- the first of the words is `swarm`
abbrev pub names_swarm : List (List ℕ) → Bool
names_swarm [] = false
names_swarm (name ∷ words) = bytes_eq name (codes "swarm")

-- the swarm that the words are, if the first of them is `swarm`
abbrev pub swarm_words_of : List (List ℕ) → Option SwarmView
swarm_words_of [] = None
swarm_words_of (name ∷ words) = if bytes_eq name (codes "swarm") then swarm_of words else None

-- the words of a `swarm`, as their numbers, names and inputs
abbrev pub swarm_view : SwarmWords → SwarmView
swarm_view swarm = record {
  workers = swarm.workers;
  renderers = swarm.renderers;
  script = swarm.script.now;
  out = swarm.out.now;
  inputs = map string_bytes swarm.inputs.now;
}
