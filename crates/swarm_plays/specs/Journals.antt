-- The history of a swarm, written as a play script.
use Rattle.std.specs.Prelude.{ℕ, List, ◌++◌, codes, decimal, flat_map, map}
use Rattle.plan_model.specs.declared.events.Entry.{Entry}
use Rattle.clip_script.specs.Scripts.{Play}
use Rattle.clip_script.specs.Texts.{read_pass, step_line}
use Rattle.clip_script.specs.declared.step.Step.{Step}
use Rattle.clip_script.specs.declared.step.Step.TheVariants.{Book}

-- the line `size K L`
unfoldable pub size_line : ℕ → ℕ → List ℕ
size_line k levels = codes "size " ++ (decimal k ++ (codes " " ++ (decimal levels ++ codes "\n")))

-- the line of an entry's event
abbrev pub entry_line : Entry → List ℕ
entry_line entry = step_line entry.pass entry.event

-- the play script of a history: its sizes, and the line of each event
abbrev pub journal_text : ℕ → ℕ → List Entry → List ℕ
journal_text k levels log = size_line k levels ++ flat_map entry_line log

-- the steps of the events of a history: a script names no pass of a move or a publication, which are taken as pass 0's
abbrev pub steps_of : List Entry → List Step
steps_of log = map (λ e. Book (read_pass e.pass e.event) e.event) log

-- the play of a history
abbrev pub play_of_history : ℕ → ℕ → List Entry → Play
play_of_history k levels log = record { k = k; levels = levels; steps = steps_of log }
