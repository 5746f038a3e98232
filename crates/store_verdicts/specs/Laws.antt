-- That any bytes have a verdict.
use Rattle.std.specs.Prelude.{◌≡◌, ◌⊎◌, ℕ, ◌<◌, List, length, ℤ, All, Result, Ok, Err}
use Rattle.terrain_model.specs.Terrain.{Terrain}
use Rattle.rice_residuals.specs.Word.{IsWordOf}
use Rattle.rice_residuals.specs.Faults.{HasFault}
use Rattle.rice_residuals.specs.declared.fault.BlockFault.{BlockFault}
use Rattle.store_model.specs.declared.fault.StoreFault.{StoreFault}
use Rattle.store_model.specs.Format.{Head}
use Rattle.store_model.specs.Store.{IsStore}
use Rattle.store_model.specs.Faults.{HasStoreFault}

-- the bytes are a word of so many residuals
pub record IsSomeWord (count : ℕ) (bytes : List ℕ) : Type 0 where
  pub residuals : List ℤ
  pub all : length residuals ≡ count
  pub word : IsWordOf residuals bytes

-- as a word of so many residuals the bytes have a first fault
pub record HasSomeWordFault (count : ℕ) (bytes : List ℕ) : Type 0 where
  pub fault : BlockFault
  pub first : HasFault count bytes fault

-- any bytes are a word of a count of residuals, or have a first fault
abbrev pub WordOrFault : Type 0
WordOrFault = (count : ℕ) (bytes : List ℕ) → IsSomeWord count bytes ⊎ HasSomeWordFault count bytes

-- the bytes are a store of some terrain
pub record IsSomeStore (bytes : List ℕ) : Type 0 where
  pub head : Head
  pub terrain : Terrain
  pub store : IsStore head terrain bytes

-- as a store they have a first fault
pub record HasSomeStoreFault (bytes : List ℕ) : Type 0 where
  pub fault : StoreFault
  pub first : HasStoreFault bytes fault

-- any bytes are a store of some terrain, or have a first fault
abbrev pub StoreOrFault : Type 0
StoreOrFault = (bytes : List ℕ) → All (λ b. b < 256) bytes → IsSomeStore bytes ⊎ HasSomeStoreFault bytes

-- what bytes stand for: the header of a store and its terrain
pub record Stored : Type 0 where
  pub head : Head
  pub terrain : Terrain

-- a verdict on bytes: what they stand for, or the first fault by which they are no store
abbrev pub Verdict : Type 0
Verdict = Result Stored StoreFault

-- the verdict is right
abbrev pub IsVerdict : List ℕ → Verdict → Type 0
IsVerdict bytes (Ok stored) = IsStore stored.head stored.terrain bytes
IsVerdict bytes (Err fault) = HasStoreFault bytes fault

-- one verdict is right of the bytes, and no other
pub record HasOneVerdict (bytes : List ℕ) : Type 0 where
  pub verdict : Verdict
  pub right : IsVerdict bytes verdict
  pub one : (other : Verdict) → IsVerdict bytes other → other ≡ verdict

-- of any bytes exactly one verdict is right
abbrev pub OneVerdict : Type 0
OneVerdict = (bytes : List ℕ) → All (λ b. b < 256) bytes → HasOneVerdict bytes
