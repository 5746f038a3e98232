-- The shelf and the sink in memory: what they hold, and which of their calls fail.
use Rattle.std.specs.Prelude.{ℕ, Bool, true, not, ◌==◌, ◌&&◌, List, [], ◌∷◌, ◌++◌, map, if◌then◌else◌, String, Vec, string_bytes, bytes_eq, refl}
use Rattle.std.specs.List.{list_any}
use Rattle.std.specs.declared.alloc.Global.{Global}
use Rattle.std.specs.Coded.{Coded, code_by, coded×, coded_ℕ, coded_list}
use Rattle.std.specs.FinMap as finite
use Rattle.outer_shelf.specs.Counts.{one_more}
use Rattle.outer_shelf.specs.Outside.{Files}

-- a shelf in memory: its files, the numbers of the calls that fail, the calls made and the faults
pub record MemoryFiles : Type 0 where
  pub files : Files
  pub failing : List ℕ
  pub calls : ℕ
  pub faults : ℕ

-- a shelf in memory is stored as the tuple of its fields
abbrev pub memory_files_code : Coded MemoryFiles
memory_files_code =
    code_by (Files × (List ℕ × (ℕ × ℕ))) (coded× (finite.code (coded_list coded_ℕ) (coded_list coded_ℕ)) (coded× (coded_list coded_ℕ) (coded× coded_ℕ coded_ℕ)))
    (λ s. (s.files, (s.failing, (s.calls, s.faults)))) (λ p. record { files = p.0; failing = p.1.0; calls = p.1.1.0; faults = p.1.1.1 }) (λ _. refl)

-- a sink in memory: its bytes, the numbers of the writes that fail, the writes made and the faults
pub record MemoryBytes : Type 0 where
  pub written : List ℕ
  pub failing : List ℕ
  pub calls : ℕ
  pub faults : ℕ

-- a sink in memory is stored as the tuple of its fields
abbrev pub memory_bytes_code : Coded MemoryBytes
memory_bytes_code =
    code_by (List ℕ × (List ℕ × (ℕ × ℕ))) (coded× (coded_list coded_ℕ) (coded× (coded_list coded_ℕ) (coded× coded_ℕ coded_ℕ)))
    (λ s. (s.written, (s.failing, (s.calls, s.faults)))) (λ p. record { written = p.0; failing = p.1.0; calls = p.1.1.0; faults = p.1.1.1 }) (λ _. refl)

-- whether the call of this number is listed as one that fails
abbrev pub is_failing : List ℕ → ℕ → Bool
is_failing failing call = list_any (λ listed. listed == call) failing

-- the count of faults after the call of this number
abbrev pub faults_after : List ℕ → ℕ → ℕ → ℕ
faults_after failing call faults = if is_failing failing call then one_more faults else faults

-- a shelf in memory after one more call that left these files
abbrev pub shelf_put : Files → MemoryFiles → MemoryFiles
shelf_put files s = record {
  files = files;
  failing = s.failing;
  calls = one_more s.calls;
  faults = faults_after s.failing s.calls s.faults;
}

-- a shelf in memory after one more call that left its files as they were
abbrev pub shelf_called : MemoryFiles → MemoryFiles
shelf_called s = shelf_put s.files s

-- a sink in memory after one more write that appended this
abbrev pub sink_called : List ℕ → MemoryBytes → MemoryBytes
sink_called piece s = record {
  written = s.written ++ piece;
  failing = s.failing;
  calls = one_more s.calls;
  faults = faults_after s.failing s.calls s.faults;
}

-- whether a file of that name is among these
abbrev pub has_name : List ℕ → List (String Global × Vec ℕ Global) → Bool
has_name name files = list_any (λ file. bytes_eq (string_bytes file.0) name) files

-- whether no name stands twice
abbrev pub names_differ : List (String Global × Vec ℕ Global) → Bool
names_differ [] = true
names_differ (file ∷ files) = not (has_name (string_bytes file.0) files) && names_differ files

-- the map that a list of files makes
abbrev pub files_of : List (String Global × Vec ℕ Global) → Files
files_of files = finite.from_entries (map (λ file. (string_bytes file.0, file.1.items)) files)
