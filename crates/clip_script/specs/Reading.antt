-- How lines are read. A reading is what they say, or the number of the first bad line, counted from 1.
use Rattle.std.specs.Prelude.{◌≡◌, ℕ, ◌+◌, Bool, not, ◌&&◌, List, [], Option, Some, None, is_some, Result, Ok, Err, if◌then◌else◌, nat_lt, length, drop, filter, slice_index_or}
use Rattle.std.specs.List.{position_or_len, filter_map}
use Rattle.clip_script.specs.Lines.{is_skipped, lines}
use Rattle.clip_script.specs.declared.fault.ScriptFault.{ScriptFault}
use Rattle.clip_script.specs.declared.lines.Left.{Left}
use Rattle.clip_script.specs.declared.lines.Opening.{Opening}
use Rattle.clip_script.specs.declared.fault.ScriptFault.TheVariants.{TooMany, BadLine, NoMemory}

-- a line that isn't skipped
abbrev pub is_spoken : List ℕ → Bool
is_spoken line = not (is_skipped line)

-- a line is bad where it isn't skipped and says nothing
abbrev pub is_bad : {A : Type 0} → (List ℕ → Option A) → List ℕ → Bool
is_bad says line = is_spoken line && not (is_some (says line))

-- what the lines say that stand behind so many lines, where none of them is bad
unfoldable pub all_said : {A : Type 0} → (List ℕ → Option A) → ℕ → List (List ℕ) → Result (List A) ℕ
all_said says before lines =
    let bad = position_or_len (is_bad says) lines in
    if nat_lt bad (length lines) then Err (before + bad + 1) else Ok (filter_map says (filter is_spoken lines))

-- what a line says that others follow: how many lines that makes, and which those are
pub record Opened (A : Type 0) : Type 0 where
  pub said : A
  pub before : ℕ
  pub rest : List (List ℕ)

-- what the code's reader of such a line found
abbrev pub opened_as : {A : Type 0} → Opening A → Opened A
opened_as opening = record { said = opening.said; before = opening.left.before; rest = lines opening.left.text.now }

-- a line that has to say something
abbrev pub opening : {A : Type 0} → ℕ → List (List ℕ) → Option A → Result (Opened A) ℕ
opening number rest None = Err number
opening number rest (Some said) = Ok (record { said = said; before = number; rest = rest })

-- of the lines behind so many lines, the first that isn't skipped: the bad line is that line where it says nothing,
-- and the line after the last one where all are skipped
unfoldable pub opened : {A : Type 0} → (List ℕ → Option A) → ℕ → List (List ℕ) → Result (Opened A) ℕ
opened says before lines =
    let first = position_or_len is_spoken lines in
    let number = before + first + 1 in
    if nat_lt first (length lines) then opening number (drop (first + 1) lines) (says (slice_index_or lines first []))
    else Err number

-- both of the lines that the code's readers have left
abbrev pub said_in : {A : Type 0} → (List ℕ → Option A) → Left → Result (List A) ℕ
said_in says left = all_said says left.before (lines left.text.now)

abbrev pub opened_in : {A : Type 0} → (List ℕ → Option A) → Left → Result (Opened A) ℕ
opened_in says left = opened says left.before (lines left.text.now)

-- a reading that goes on with what was read
abbrev pub go_on : {A B E : Type 0} → (A → Result B E) → Result A E → Result B E
go_on next (Ok a) = next a
go_on next (Err e) = Err e

-- a bad line as a script's fault
abbrev pub bad_line : {A : Type 0} → Result A ℕ → Result A ScriptFault
bad_line (Ok a) = Ok a
bad_line (Err number) = Err (BadLine number)

-- the reading of a script by its lines: more than 1,048,577 lines come before any bad line
unfoldable pub script_of : {A : Type 0} → (List (List ℕ) → Result A ℕ) → List ℕ → Result A ScriptFault
script_of read text =
    let count = length (lines text) in
    if nat_lt 1048577 count then Err (TooMany count) else bad_line (read (lines text))

-- what a private reader found where it failed: the reading's bad line, or no memory
abbrev pub IsStop : {A : Type 0} → Result A ℕ → ScriptFault → Type 0
IsStop reading (TooMany count) = ⊥
IsStop reading (BadLine number) = reading ≡ Err number
IsStop reading NoMemory = Unit {0}
