use Rattle.std.proofs.Common.{List, ℕ, sym, subst}
use Rattle.store_model.specs.Faults.{HasStoreFault}
use Rattle.store_model.specs.declared.fault.StoreFault.TheVariants.{NoMemory}
use Rattle.terrain_store.proofs.Results.{no_fault}
use Rattle.terrain_store.proofs.reading.read_store_beside.Goals as goal

pub returns-in-Ok-clause-refuses : goal.returns-in-Ok-clause-refuses
returns-in-Ok-clause-refuses g c = λ fault f.
    absurd (no_fault c.in_ok-stored.stored fault NoMemory (c.in_ok-stored.ensures.refuses fault (subst (λ (xs : List ℕ). HasStoreFault xs fault) (sym c.as_slice.ensures.value) f)))
