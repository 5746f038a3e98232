-- That bytes are one store, or have one first fault.
use Rattle.std.specs.Prelude.{◌≡◌, ℕ, ◌+◌, ◌<◌, ◌≤◌, List, ℤ}
use Rattle.terrain_model.specs.Terrain.{Terrain, IsTerrain, height_at}
use Rattle.store_model.specs.declared.fault.StoreFault.{StoreFault}
use Rattle.store_model.specs.Format.{Head, IsSoundHead}
use Rattle.store_model.specs.Store.{Levels, IsFront, IsStore}
use Rattle.store_model.specs.Faults.{HasStoreFault}

-- no bytes stand for two terrains, or by two headers
abbrev pub OneTerrain : Type 0
OneTerrain =
    (head other : Head) (terrain second : Terrain) (bytes : List ℕ) → IsStore head terrain bytes
    → IsStore other second bytes
    → (head ≡ other) × (terrain ≡ second)

-- a store has no fault
abbrev pub StoreHasNoFault : Type 0
StoreHasNoFault =
    (head : Head) (terrain : Terrain) (bytes : List ℕ) (fault : StoreFault) → IsStore head terrain bytes
    → HasStoreFault bytes fault → ⊥

-- no bytes have two first faults
abbrev pub OneFirstFault : Type 0
OneFirstFault =
    (bytes : List ℕ) (fault other : StoreFault) → HasStoreFault bytes fault → HasStoreFault bytes other → fault ≡ other

-- bytes of all levels are a store of the terrain whose heights are those of the finest level
abbrev pub StoreOfLevels : Type 0
StoreOfLevels =
    (head : Head) (heights : Levels) (terrain : Terrain) (bytes : List ℕ) → IsSoundHead head → IsTerrain terrain
    → head.width ≡ terrain.width → head.height ≡ terrain.height → ((i j : ℤ) → heights 0 i j ≡ height_at terrain i j)
    → IsFront head heights head.levels bytes → IsStore head terrain bytes

-- bytes of the n coarsest levels are so by any heights that are the same at these levels
abbrev pub FrontOfLike : Type 0
FrontOfLike =
    (head : Head) (heights other : Levels) (n : ℕ) (bytes : List ℕ) → n ≤ head.levels
    → ((m : ℕ) → head.levels ≤ m + n → m < head.levels → (i j : ℤ) → heights m i j ≡ other m i j)
    → IsFront head heights n bytes → IsFront head other n bytes
