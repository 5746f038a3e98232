-- What is asked of a run, and what each of its activities and all of them together come to.
use Rattle.std.specs.Prelude.{◌≡◌, ℕ, ◌+◌, Bool, List, [], ◌∷◌, All, Result, IfOk}
use Rattle.plan_model.specs.Limits.{IsSize}
use Rattle.obj_frames.specs.declared.memory.NoMemory.{NoMemory}
use Rattle.clip_script.specs.Ranges.{IsMove}
use Rattle.clip_script.specs.declared.swarm.SwarmScript.{SwarmScript}
use Rattle.clip_gate.specs.Passes.{ClipView}
use Rattle.swarm_laws.specs.Runs.{Orders}
use Rattle.swarm_passes.specs.Playing.{PlayedBy, GatheredBy}
use Rattle.clip_swarm.specs.declared.crew.Crew.{Crew}
use Rattle.clip_swarm.specs.declared.crew.Outcome.{Outcome}

-- what a script asks of so many workers and renderers
abbrev pub orders_of : SwarmScript → ℕ → ℕ → Orders
orders_of script workers renderers = record {
  workers = workers;
  renderers = renderers;
  claims = script.claims;
  begins = script.begins;
  moves = script.moves.items;
}

-- what a script asks of a crew, and how many passes the crew has: that of the mover comes first
abbrev pub asked_of : SwarmScript → Crew → Orders
asked_of script crew = orders_of script crew.workers crew.renderers

abbrev pub passes_of : Crew → ℕ
passes_of crew = 1 + crew.workers + crew.renderers

-- a script is one for a clip
pub record IsScriptFor (script : SwarmScript) (clip : ClipView) : Type 0 where
  pub size : IsSize script.k
  pub same : script.k ≡ clip.size
  pub moves : All IsMove script.moves.items

-- what the pass of number n has done of its share
abbrev pub IsPlayed : Orders → ClipView → ℕ → Outcome → Type 0
IsPlayed orders clip n outcome = PlayedBy orders clip n outcome.pass outcome.full outcome.frames.items

-- so it is of the passes from n on, where there was memory
abbrev pub ArePlayed : Orders → ClipView → ℕ → List (Result Outcome NoMemory) → Type 0
ArePlayed orders clip n [] = Unit {0}
ArePlayed orders clip n (r ∷ rest) = IfOk r (IsPlayed orders clip n) × ArePlayed orders clip (n + 1) rest

-- the first of them has these numbers left to give
abbrev pub FirstHasLeft : List Bool → List (Result Outcome NoMemory) → Type 0
FirstHasLeft left [] = ⊥
FirstHasLeft left (r ∷ rest) = IfOk r (λ outcome. outcome.pass.left ≡ left)

-- what the passes below n have done, as one pass knows that took the others over
abbrev pub IsGathered : Orders → ClipView → ℕ → ℕ → Outcome → Type 0
IsGathered orders clip m n outcome = GatheredBy orders clip m n outcome.pass outcome.full outcome.frames.items
