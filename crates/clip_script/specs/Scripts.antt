-- What a script of each kind is read as.
use Rattle.std.specs.Prelude.{ℕ, ℤ, Option, Some, None, List, [], ◌∷◌, if◌then◌else◌, codes, Result, Ok}
use Rattle.std.specs.Option.{option_map}
use Rattle.std.specs.Str.{bytes_eq}
use Rattle.plan_model.specs.declared.events.FlyLine.{FlyLine}
use Rattle.plan_model.specs.declared.events.FlyLine.TheVariants.{Move, Frame, Settle}
use Rattle.clip_script.specs.declared.fault.ScriptFault.{ScriptFault}
use Rattle.clip_script.specs.declared.numbers.Pair.{Pair}
use Rattle.clip_script.specs.declared.numbers.Ranges.{Ranges}
use Rattle.clip_script.specs.declared.step.Place.{Place}
use Rattle.clip_script.specs.declared.step.Step.{Step}
use Rattle.clip_script.specs.declared.play.PlayScript.{PlayScript}
use Rattle.clip_script.specs.declared.fly.FlyScript.{FlyScript}
use Rattle.clip_script.specs.declared.swarm.SwarmScript.{SwarmScript}
use Rattle.clip_script.specs.Lines.{words}
use Rattle.clip_script.specs.Reading.{Opened, all_said, opened, go_on, script_of}
use Rattle.clip_script.specs.Steps.{place_of, two_numbers, step_of}

-- two numbers behind a name
abbrev pub pair_behind : List ℕ → Ranges → List (List ℕ) → Option Pair
pair_behind name ranges [] = None
pair_behind name ranges (word ∷ rest) = if bytes_eq word name then two_numbers ranges rest else None

-- `size K L`
unfoldable pub size_of : List ℕ → Option Pair
size_of line = pair_behind (codes "size") (record { first = (4, 8); second = (1, 12) }) (words line)

-- `work C F`
unfoldable pub work_of : List ℕ → Option Pair
work_of line = pair_behind (codes "work") (record { first = (0, 100000); second = (0, 1000) }) (words line)

-- a word alone
abbrev pub alone : {A : Type 0} → A → List (List ℕ) → Option A
alone a [] = Some a
alone a (word ∷ more) = None

-- a line of a flight: a move, `frame` or `settle`
abbrev pub flown : List (List ℕ) → Option FlyLine
flown rest = option_map (λ (place : Place). Move place.x place.y place.a) (place_of rest)

unfoldable pub fly_named : List ℕ → List (List ℕ) → Option FlyLine
fly_named name rest =
    if bytes_eq name (codes "move") then flown rest
    else if bytes_eq name (codes "frame") then alone Frame rest
    else if bytes_eq name (codes "settle") then alone Settle rest
    else None

abbrev pub fly_words : List (List ℕ) → Option FlyLine
fly_words [] = None
fly_words (name ∷ rest) = fly_named name rest

unfoldable pub fly_of : List ℕ → Option FlyLine
fly_of line = fly_words (words line)

-- a move, `move X Y` or `move X Y A`
abbrev pub gone : List (List ℕ) → Option (ℤ × ℤ × ℕ)
gone rest = option_map (λ (place : Place). (place.x, place.y, place.a)) (place_of rest)

abbrev pub move_words : List (List ℕ) → Option (ℤ × ℤ × ℕ)
move_words [] = None
move_words (name ∷ rest) = if bytes_eq name (codes "move") then gone rest else None

unfoldable pub move_of : List ℕ → Option (ℤ × ℤ × ℕ)
move_of line = move_words (words line)

-- a play script: its sizes, and its steps
pub record Play : Type 0 where
  pub k : ℕ
  pub levels : ℕ
  pub steps : List Step

-- a fly script: its sizes, and its lines
pub record Fly : Type 0 where
  pub k : ℕ
  pub levels : ℕ
  pub lines : List FlyLine

-- a swarm script: its sizes, the claims of each worker and the beginnings of each renderer, and its moves
pub record Swarm : Type 0 where
  pub k : ℕ
  pub levels : ℕ
  pub claims : ℕ
  pub begins : ℕ
  pub moves : List (ℤ × ℤ × ℕ)

-- after `size`, each line that isn't skipped has a step
abbrev pub with_steps : Opened Pair → List Step → Result Play ℕ
with_steps size steps = Ok (record { k = size.said.first; levels = size.said.second; steps = steps })

abbrev pub play_after : Opened Pair → Result Play ℕ
play_after size = go_on (with_steps size) (all_said (step_of size.said.second) size.before size.rest)

unfoldable pub play_of : List ℕ → Result Play ScriptFault
play_of = script_of (λ lines. go_on play_after (opened size_of 0 lines))

-- the same of the lines of a flight
abbrev pub with_lines : Opened Pair → List FlyLine → Result Fly ℕ
with_lines size lines = Ok (record { k = size.said.first; levels = size.said.second; lines = lines })

abbrev pub fly_after : Opened Pair → Result Fly ℕ
fly_after size = go_on (with_lines size) (all_said fly_of size.before size.rest)

unfoldable pub flight_of : List ℕ → Result Fly ScriptFault
flight_of = script_of (λ lines. go_on fly_after (opened size_of 0 lines))

-- after `size` and `work`, each line of a swarm script that isn't skipped is a move
abbrev pub with_moves : Pair → Opened Pair → List (ℤ × ℤ × ℕ) → Result Swarm ℕ
with_moves size work moves =
    Ok (record {
      k = size.first;
      levels = size.second;
      claims = work.said.first;
      begins = work.said.second;
      moves = moves;
    })

abbrev pub swarm_after : Pair → Opened Pair → Result Swarm ℕ
swarm_after size work = go_on (with_moves size work) (all_said move_of work.before work.rest)

abbrev pub work_after : Opened Pair → Result Swarm ℕ
work_after size = go_on (swarm_after size.said) (opened work_of size.before size.rest)

unfoldable pub swarm_of : List ℕ → Result Swarm ScriptFault
swarm_of = script_of (λ lines. go_on work_after (opened size_of 0 lines))

-- the scripts that the readers give
abbrev pub play_view : PlayScript → Play
play_view script = record { k = script.k; levels = script.levels; steps = script.steps.items }

abbrev pub fly_view : FlyScript → Fly
fly_view script = record { k = script.k; levels = script.levels; lines = script.lines.items }

abbrev pub swarm_view : SwarmScript → Swarm
swarm_view script = record {
  k = script.k;
  levels = script.levels;
  claims = script.claims;
  begins = script.begins;
  moves = script.moves.items;
}
