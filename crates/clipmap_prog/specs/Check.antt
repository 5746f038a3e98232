-- The command `check`.
use Rattle.std.specs.Prelude.{ℕ, List, [], ◌∷◌, length, nat_lt, if◌then◌else◌, Option, Some, None, Result, Ok, Err}
use Rattle.std.specs.FinMap as map
use Rattle.outer_shelf.specs.Outside.{Files}
use Rattle.mesh_check.specs.Verdict.{verdict}
use Rattle.mesh_check.specs.declared.verdict.Verdict.{Verdict}
use Rattle.mesh_check.specs.declared.verdict.Verdict.TheVariants.{Watertight}
use Rattle.clipmap_words.specs.Check.{CheckView}
use Rattle.run_actions.specs.Actions.{Action, Write}
use Rattle.clipmap_prog.specs.Faults.{Cause, File, Mesh}
use Rattle.clipmap_prog.specs.declared.fault.FileFault.TheVariants.{Absent, TooLong}
use Rattle.clipmap_prog.specs.Outcome.{Outcome, concluded}
use Rattle.clipmap_prog.specs.Reading.{Reading, fetched}
use Rattle.clipmap_prog.specs.Verdicts.{watertight_line}

-- the most bytes that a file to be judged may have, 2^28
abbrev pub text_limit : ℕ
text_limit = 268435456

-- the triangles of a watertight mesh; each other verdict is a refusal
abbrev pub judged : Verdict → Result ℕ Cause
judged (Watertight triangles) = Ok triangles
judged other = Err (Mesh other)

-- a file's text judged, if it is there and no longer than the limit
abbrev pub text_of_file : List ℕ → Option (List ℕ) → Result ℕ Cause
text_of_file name None = Err (File name Absent)
text_of_file name (Some bytes) =
    if nat_lt text_limit (length bytes) then Err (File name (TooLong (length bytes) text_limit))
    else judged (verdict bytes)

-- what a `check` comes to, by one fetch
abbrev pub check_reading : CheckView → Files → Reading ℕ
check_reading check files = fetched (text_of_file check.file (map.get files check.file))

-- what a `check` writes of a watertight mesh
abbrev pub check_actions : ℕ → List Action
check_actions triangles = Write (watertight_line triangles) ∷ []

-- what a `check` does: status 0 exactly where the verdict is watertight
unfoldable pub check_outcome : CheckView → Files → Outcome
check_outcome check files = concluded check_actions (check_reading check files)
