-- What the file of a store comes to.
use Rattle.std.specs.Prelude.{ℕ, ◌≤◌, List, [], ◌∷◌, length, nat_lt, if◌then◌else◌, Option, Some, None, IfSome, Result, Ok, Err}
use Rattle.std.specs.FinMap as map
use Rattle.outer_shelf.specs.Outside.{Files}
use Rattle.terrain_model.specs.Terrain.{Terrain}
use Rattle.store_model.specs.Format.{Head}
use Rattle.store_model.specs.Store.{IsStore}
use Rattle.store_model.specs.Faults.{HasStoreFault}
use Rattle.store_model.specs.declared.fault.StoreFault.{StoreFault}
use Rattle.store_reader.specs.Headers.{head_of}
use Rattle.clipmap_words.specs.Names.{is_store}
use Rattle.clipmap_prog.specs.Faults.{Cause, File, Store}
use Rattle.clipmap_prog.specs.declared.fault.FileFault.TheVariants.{Absent, TooLong}
use Rattle.clipmap_prog.specs.declared.stored.StoreFile.{StoreFile}

-- the most bytes that the file of a store may have
abbrev pub store_limit : ℕ
store_limit = 1073741824

-- what bytes stand for: the header of a store and its terrain
pub record Stored : Type 0 where
  pub head : Head
  pub terrain : Terrain

-- a verdict on bytes: what they stand for, or the first fault by which they are no store
abbrev pub Verdict : Type 0
Verdict = Result Stored StoreFault

-- the verdict is right. No bytes have two right ones, by the laws of stores
abbrev pub IsVerdict : List ℕ → Verdict → Type 0
IsVerdict bytes (Ok stored) = IsStore stored.head stored.terrain bytes
IsVerdict bytes (Err fault) = HasStoreFault bytes fault

-- the verdict is right of a file, if it is there and no longer than the limit
abbrev pub IsVerdictOnFile : Option (List ℕ) → Verdict → Type 0
IsVerdictOnFile file verdict = IfSome file (λ bytes. length bytes ≤ store_limit → IsVerdict bytes verdict)

-- the name of the store, where the one input is a store
abbrev pub store_name : List (List ℕ) → Option (List ℕ)
store_name (name ∷ []) = if is_store name then Some name else None
store_name _ = None

-- the verdict is right of the file of the store that the inputs name, if they name one
abbrev pub IsVerdictOn : List (List ℕ) → Files → Verdict → Type 0
IsVerdictOn names files verdict = IfSome (store_name names) (λ name. IsVerdictOnFile (map.get files name) verdict)

-- this holds by each right verdict, where the files are told. Inputs that name no store have no verdict to wait for
abbrev pub ByVerdict : List (List ℕ) → Option Files → (Verdict → Type 0) → Type 0
ByVerdict names files P = (verdict : Verdict) → IfSome files (λ m. IsVerdictOn names m verdict) → P verdict

-- a store that was read: what its bytes stand for, and how many they are
pub record StoreView : Type 0 where
  pub stored : Stored
  pub length : ℕ

-- the store of so many bytes, by the verdict on them
abbrev pub store_by : ℕ → Verdict → Result StoreView Cause
store_by length (Ok stored) = Ok (record { stored = stored; length = length })
store_by length (Err fault) = Err (Store fault)

-- the store of a file, if it is there and no longer than the limit
abbrev pub store_of_file : List ℕ → Verdict → Option (List ℕ) → Result StoreView Cause
store_of_file name verdict None = Err (File name Absent)
store_of_file name verdict (Some bytes) =
    if nat_lt store_limit (length bytes) then Err (File name (TooLong (length bytes) store_limit))
    else store_by (length bytes) verdict

-- a store as contracts see it
abbrev pub store_view : StoreFile → StoreView
store_view file = record { stored = record { head = head_of file.header; terrain = file.grid }; length = file.length }
