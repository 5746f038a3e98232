-- A script of some kind that is read from a file, and the terrain that it is done over.
use Rattle.std.specs.Prelude.{ℕ, List, length, nat_lt, if◌then◌else◌, Option, Some, None, Result, Ok, Err}
use Rattle.std.specs.FinMap as map
use Rattle.outer_shelf.specs.Outside.{Files}
use Rattle.terrain_store.specs.Shapes.{Land}
use Rattle.clip_script.specs.declared.fault.ScriptFault.{ScriptFault}
use Rattle.clipmap_prog.specs.Faults.{Cause, File, Script}
use Rattle.clipmap_prog.specs.declared.fault.FileFault.TheVariants.{Absent, TooLong}
use Rattle.clipmap_prog.specs.Lands.{land_reading}
use Rattle.clipmap_prog.specs.Reading.{Reading, unfetched, fetched, and_then}
use Rattle.clipmap_prog.specs.Stores.{Verdict}

-- the most bytes that a script may have, 2^25
abbrev pub script_limit : ℕ
script_limit = 33554432

-- a script that was read, or its fault as a cause
abbrev pub scripted : {S : Type 0} → Result S ScriptFault → Result S Cause
scripted (Ok script) = Ok script
scripted (Err fault) = Err (Script fault)

-- the script of a file, if it is there and no longer than the limit
abbrev pub script_of_file : {S : Type 0} → (List ℕ → Result S Cause) → List ℕ → Option (List ℕ) → Result S Cause
script_of_file read name None = Err (File name Absent)
script_of_file read name (Some bytes) =
    if nat_lt script_limit (length bytes) then Err (File name (TooLong (length bytes) script_limit)) else read bytes

-- the script of a name, by one fetch
abbrev pub script_reading : {S : Type 0} → (List ℕ → Result S Cause) → List ℕ → Files → Reading S
script_reading read name files = fetched (script_of_file read name (map.get files name))

-- a script, and the terrain that it is done over
pub record Stage (S : Type 0) : Type 0 where
  pub script : S
  pub land : Land

abbrev pub stage_of : {S : Type 0} → S → Land → Stage S
stage_of script land = record { script = script; land = land }

-- a script over inputs that have its levels
abbrev pub staged : {S : Type 0} → (S → ℕ) → Verdict → List (List ℕ) → Files → S → Reading (Stage S)
staged levels verdict names files script =
    and_then (land_reading verdict names (levels script) files) (λ land. unfetched (Ok (stage_of script land)))

-- what a script's name and inputs come to: the script is judged before any input
unfoldable pub stage_reading : {S : Type 0} → (List ℕ → Result S Cause) → (S → ℕ) → Verdict → List ℕ → List (List ℕ) → Files → Reading (Stage S)
stage_reading read levels verdict name inputs files =
    and_then (script_reading read name files) (staged levels verdict inputs files)
