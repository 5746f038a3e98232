-- The log of a script, which is one function of its bytes.
use Rattle.std.specs.Prelude.{◌≡◌, ◌⊎◌, ℕ, if◌then◌else◌, List, Option, Some, None, Result, Ok, Err, IsOk, flat_map}
use Rattle.std.specs.List.{filter_map, list_any}
use Rattle.std.specs.Io.KnownBytes.{Appends}
use Rattle.clip_script.specs.declared.fault.ScriptFault.{ScriptFault}
use Rattle.clip_script.specs.declared.step.Step.{Step}
use Rattle.clip_script.specs.declared.step.Step.TheVariants.{Book, See, EndSeen}
use Rattle.clip_script.specs.Scripts.{Play, play_of}
use Rattle.clip_script.specs.Texts.{log_line}
use Rattle.clip_script.specs.Views.{is_view, view_line}
use Rattle.plan_model.specs.declared.events.Entry.{Entry}
use Rattle.plan_model.specs.States.{start_state}
use Rattle.plan_model.specs.Histories.{run}
use Rattle.plan_plain.specs.declared.runs.PlainAsked.{PlainAsked}
use Rattle.plan_plain.specs.Asked.{asked_of}
use Rattle.plan_log.specs.Halts.{halt_of, IsWriteStop}
use Rattle.plan_log.specs.declared.halt.Halt.{Halt}
use Rattle.plan_log.specs.declared.halt.Halt.TheVariants.{Line, NoMemory}

-- the event that a step is, where it doesn't ask for a view
abbrev pub event_of : Step → Option PlainAsked
event_of (Book pass event) = Some (record { pass = pass; event = event })
event_of (See view) = None
event_of (EndSeen pass) = None

-- the log line of an entry of a history
abbrev pub entry_line : Entry → List ℕ
entry_line entry = log_line entry.pass entry.event entry.answer

-- the log of events from the start state: a line for each entry of the history that they leave
unfoldable pub log_of : ℕ → ℕ → List PlainAsked → List ℕ
log_of k levels events = flat_map entry_line (run (start_state k levels) (asked_of events)).history

-- the log of a script that was read: a script that asks for a view is refused at the first line that does
unfoldable pub play_log : List ℕ → Play → Result (List ℕ) Halt
play_log text play =
    if list_any is_view play.steps then Err (Line (view_line text))
    else Ok (log_of play.k play.levels (filter_map event_of play.steps))

-- the log of a script, or why it is refused
abbrev pub reading_log : List ℕ → Result Play ScriptFault → Result (List ℕ) Halt
reading_log text (Ok play) = play_log text play
reading_log text (Err fault) = Err (halt_of fault)

unfoldable pub script_log : List ℕ → Result (List ℕ) Halt
script_log text = reading_log text (play_of text)

-- why there is no log: there was no memory, or the script is refused
abbrev pub EndsBy : Result (List ℕ) Halt → Halt → Type 0
EndsBy log halt = (halt ≡ NoMemory) ⊎ (log ≡ Err halt)

-- why a log isn't written: it was there and couldn't be written, or there was none
abbrev pub EndsUnwritten : Result (List ℕ) Halt → Halt → Type 0
EndsUnwritten log halt = (IsOk log × IsWriteStop halt) ⊎ EndsBy log halt

-- the log is appended to what was written
abbrev pub AppendsLog : Option (List ℕ) → Option (List ℕ) → Result (List ℕ) Halt → Type 0
AppendsLog old new (Ok text) = Appends old new text
AppendsLog old new (Err refusal) = ⊥
