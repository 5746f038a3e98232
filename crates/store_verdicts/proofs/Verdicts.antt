-- Of any bytes one verdict is right.
use Rattle.std.proofs.Common.{◌≡◌, List, ℕ, Ok, Err, ap, ap₂, ⊎_elim}
use Rattle.terrain_model.specs.Terrain.{Terrain}
use Rattle.store_model.specs.declared.fault.StoreFault.{StoreFault}
use Rattle.store_model.specs.Format.{Head}
use Rattle.store_model.specs.Store.{IsStore}
use Rattle.store_model.specs.Faults.{HasStoreFault}
use Rattle.store_laws.specs.Laws.{OneTerrain, StoreHasNoFault, OneFirstFault}
use Rattle.store_verdicts.specs.Laws.{IsSomeStore, HasSomeStoreFault, Verdict, IsVerdict, StoreOrFault, OneVerdict}

of_store : OneTerrain → StoreHasNoFault → (head : Head) (terrain : Terrain) (bytes : List ℕ) → IsStore head terrain bytes → (other : Verdict) → IsVerdict bytes other → other ≡ Ok (record { head = head; terrain = terrain })
of_store one none head terrain bytes store (Ok x) right =
    let same = one x.head head x.terrain terrain bytes right store in
    ap₂ (λ (h : Head) (t : Terrain). Ok (record { head = h; terrain = t })) same.0 same.1
of_store one none head terrain bytes store (Err fault) right = absurd (none head terrain bytes fault store right)

of_fault : StoreHasNoFault → OneFirstFault → (fault : StoreFault) (bytes : List ℕ) → HasStoreFault bytes fault → (other : Verdict) → IsVerdict bytes other → other ≡ Err fault
of_fault none first fault bytes has (Ok x) right = absurd (none x.head x.terrain bytes fault right has)
of_fault none first fault bytes has (Err e) right = ap Err (first bytes e fault right has)

pub one_of_any : StoreOrFault → OneTerrain → StoreHasNoFault → OneFirstFault → OneVerdict
one_of_any any one none first bytes all =
    ⊎_elim
    (λ (s : IsSomeStore bytes).
    record { verdict = Ok (record { head = s.head; terrain = s.terrain }); right = s.store; one = of_store one none s.head s.terrain bytes s.store })
    (λ (f : HasSomeStoreFault bytes). record { verdict = Err f.fault; right = f.first; one = of_fault none first f.fault bytes f.first })
    (any bytes all)
