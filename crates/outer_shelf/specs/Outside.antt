-- What the calls of a shelf and of a sink answer, and what they leave.
use Rattle.std.specs.Prelude.{◌≡◌, ℕ, ◌<◌, ◌≤◌, List, ◌++◌, length, take, vec_len, Option, None, Some, IsSomeAnd, option_map}
use Rattle.std.specs.Ordering.{nat_cmp}
use Rattle.std.specs.Io.KnownBytes.{Consumes}
use Rattle.std.specs.Cmp.Lexicographic.{slice_cmp}
use Rattle.std.specs.FinMap as map
use Rattle.outer_shelf.specs.declared.traits.Fetched.{Fetched}
use Rattle.outer_shelf.specs.declared.traits.Fetched.TheVariants as fetched
use Rattle.outer_shelf.specs.declared.traits.PutFault.{PutFault}
use Rattle.outer_shelf.specs.declared.traits.PutFault.TheVariants as put_fault
use Rattle.outer_shelf.specs.declared.traits.SinkFault.{SinkFault}
use Rattle.outer_shelf.specs.declared.traits.SinkFault.TheVariants as sink_fault

-- the files of a shelf: a map from the bytes of a name to the bytes of the file
abbrev pub Files : Type 0
Files = map.FinMap (slice_cmp nat_cmp) (List ℕ)

-- the files with these bytes at that name
abbrev pub files_with : List ℕ → List ℕ → Files → Files
files_with name bytes files = map.insert files name bytes

-- what a shelf tells: its files and the number of its calls, where it tells them, and its count of faults
pub record ShelfTold : Type 0 where
  pub files : Option Files
  pub calls : Option ℕ
  pub faults : ℕ

-- what a sink tells: the bytes written and the number of its calls, where it tells them, and its count of faults
pub record SinkTold : Type 0 where
  pub written : Option (List ℕ)
  pub calls : Option ℕ
  pub faults : ℕ

-- two states of the files, where they are told, are alike at every other name than this one
abbrev pub SameElsewhere : List ℕ → Option Files → Option Files → Type 0
SameElsewhere name before now = option_map (λ m. map.remove m name) now ≡ option_map (λ m. map.remove m name) before

-- what a fetch may answer of a file whose bytes are known, or that is known to be missing
abbrev pub Fetches : Option (List ℕ) → ℕ → Fetched → Type 0
Fetches file limit (fetched.Found bytes) = file ≡ Some bytes.items
Fetches file limit fetched.Absent = file ≡ None
Fetches file limit (fetched.TooLong size _) = IsSomeAnd file (λ bytes. (size ≡ length bytes) × (limit < size))
Fetches file limit fetched.Failed = Unit {0}
Fetches file limit fetched.NoMemory = Unit {0}

-- an answer is in its limit: no more bytes than that are found, and a length is too long only above it
abbrev pub KeepsLimit : ℕ → Fetched → Type 0
KeepsLimit limit (fetched.Found bytes) = vec_len bytes ≤ limit
KeepsLimit limit fetched.Absent = Unit {0}
KeepsLimit limit (fetched.TooLong size most) = (limit < size) × (most ≡ limit)
KeepsLimit limit fetched.Failed = Unit {0}
KeepsLimit limit fetched.NoMemory = Unit {0}

-- this holds if a fetch failed
abbrev pub OnFetchFailed : Fetched → Type 0 → Type 0
OnFetchFailed (fetched.Found _) P = Unit {0}
OnFetchFailed fetched.Absent P = Unit {0}
OnFetchFailed (fetched.TooLong _ _) P = Unit {0}
OnFetchFailed fetched.Failed P = P
OnFetchFailed fetched.NoMemory P = Unit {0}

-- this holds if a put was refused because it failed
abbrev pub OnPutFailed : PutFault → Type 0 → Type 0
OnPutFailed put_fault.Failed P = P
OnPutFailed put_fault.NoMemory P = Unit {0}

-- this holds if a write was refused because it failed
abbrev pub OnWriteFailed : SinkFault → Type 0 → Type 0
OnWriteFailed sink_fault.Failed P = P
OnWriteFailed sink_fault.NoMemory P = Unit {0}

-- what a refused write leaves, where the bytes written are told: those before, and a front of the piece
pub record AppendsFront (piece : List ℕ) (before now : Option (List ℕ)) : Type 0 where
  pub count : ℕ
  pub bytes : now ≡ option_map (λ written. written ++ take count piece) before

-- what was read of a reader, where its bytes are told: a front of them of at most so many
pub record TakesFront (most : ℕ) (before now : Option (List ℕ)) : Type 0 where
  pub piece : List ℕ
  pub few : length piece ≤ most
  pub taken : Consumes before now piece
