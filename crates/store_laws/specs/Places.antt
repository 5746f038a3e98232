-- A place in the bytes of a store where a block is to stand, and what may be wrong there.
use Rattle.std.specs.Prelude.{◌≡◌, ℕ, suc, ◌+◌, ◌-◌, ◌<◌, ◌==◌, List, ◌++◌, length, ℤ, pos}
use Rattle.store_model.specs.declared.fault.StoreFault.{StoreFault}
use Rattle.store_model.specs.declared.fault.StoreFault.TheVariants.{BadMagic, BadHeader, CutShort, BadBlock, OutOfRange, Excess, NoMemory}
use Rattle.store_model.specs.Sizes.{block_column, block_row}
use Rattle.store_model.specs.Format.{Head}
use Rattle.store_model.specs.Store.{Levels, region_of, AreBlocks, IsFront}
use Rattle.store_model.specs.Faults.{IsCutEntry, HasBlockFault, OpensWithBlock, HasValueOut}

-- the fault of what stands where block k of a level ought to
abbrev pub HasFaultAt : Head → (ℤ → ℤ → ℤ) → ℕ → ℕ → List ℕ → List ℕ → StoreFault → Type 0
HasFaultAt head coarser level k bytes rest BadMagic = ⊥
HasFaultAt head coarser level k bytes rest (BadHeader field) = ⊥
HasFaultAt head coarser level k bytes rest (CutShort offset) = (offset ≡ length bytes) × IsCutEntry rest
HasFaultAt head coarser level k bytes rest (BadBlock l bx by fault) =
    (l ≡ level) × (bx ≡ block_column head.width level k) × (by ≡ block_row head.width level k)
    × OpensWithBlock rest (λ content. HasBlockFault (level + 1 == head.levels) (region_of head level k) content fault)
HasFaultAt head coarser level k bytes rest (OutOfRange l i j value) =
    (l ≡ level) × (level + 1 < head.levels)
    × OpensWithBlock rest
    (λ content. HasValueOut coarser head.step (region_of head level k) content (pos i) (pos j) value)
HasFaultAt head coarser level k bytes rest (Excess offset) = ⊥
HasFaultAt head coarser level k bytes rest NoMemory = ⊥

-- the bytes are those of the levels before this one, of k blocks of it, and the rest
pub record IsPlace (head : Head) (heights : Levels) (level k : ℕ) (bytes rest : List ℕ) : Type 0 where
  pub before : List ℕ
  pub blocks : List ℕ
  pub front : IsFront head heights (head.levels - suc level) before
  pub done : AreBlocks head heights level k blocks
  pub spelled : bytes ≡ before ++ (blocks ++ rest)
