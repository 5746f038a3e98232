-- A header as the definitions of a store have it.
use Rattle.std.specs.Prelude.{◌≡◌, ℕ, ◌+◌, ◌^◌, ◌≤◌, List, length, drop}
use Rattle.four_point.specs.Steps.{IsStep}
use Rattle.store_model.specs.Format.{Head, IsSoundHead}
use Rattle.store_model.specs.Faults.{BeginsAs, IsCutHead, OpensWithHead, IsBadField}
use Rattle.store_model.specs.declared.fault.StoreFault.{StoreFault}
use Rattle.store_model.specs.declared.fault.StoreFault.TheVariants.{BadMagic, BadHeader, CutShort, BadBlock, OutOfRange, Excess, NoMemory}
use Rattle.store_reader.specs.declared.header.Header.{Header}

abbrev pub head_of : Header → Head
head_of header = record {
  version = header.version;
  width = header.width;
  height = header.height;
  levels = header.levels;
  step = header.step;
}

-- how many bytes the header of a version has
abbrev pub head_length : Header → ℕ
head_length header = 12 + header.version

-- a header that a store may have, with the bounds on its sides
pub record IsReadable (header : Header) : Type 0 where
  pub sound : IsSoundHead (head_of header)
  pub wide : header.width ≤ 2 ^ 26
  pub high : header.height ≤ 2 ^ 26
  pub step : IsStep header.step

-- the bytes begin with the header of a store
pub record IsHeaderOf (header : Header) (bytes : List ℕ) : Type 0 where
  pub readable : IsReadable header
  pub whole : head_length header ≤ length bytes
  pub opens : OpensWithHead (head_of header) bytes (drop (head_length header) bytes)

-- the first fault of bytes that don't begin with the header of a store
abbrev pub HasHeaderFault : List ℕ → StoreFault → Type 0
HasHeaderFault bytes BadMagic = (¬ BeginsAs 1 bytes) × (¬ BeginsAs 2 bytes)
HasHeaderFault bytes (BadHeader field) =
    (head : Head) × (rest : List ℕ) × OpensWithHead head bytes rest × IsBadField head field
HasHeaderFault bytes (CutShort offset) = (offset ≡ length bytes) × IsCutHead bytes
HasHeaderFault bytes (BadBlock level bx by fault) = ⊥
HasHeaderFault bytes (OutOfRange level i j value) = ⊥
HasHeaderFault bytes (Excess offset) = ⊥
HasHeaderFault bytes NoMemory = ⊥
