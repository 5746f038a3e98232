-- What a store is to its users.
use Rattle.std.specs.Prelude.{ℕ, ℤ, List}
use Rattle.height_pyramid.specs.Extremes.{IsLeast, IsGreatest}
use Rattle.terrain_model.specs.Terrain.{Terrain}
use Rattle.store_model.specs.Format.{Head}
use Rattle.store_model.specs.Store.{IsStore}
use Rattle.store_model.specs.Restored.{restored_terrain, canonical_store, head_of}
use Rattle.store_reader.specs.declared.header.Header.{Header}
use Rattle.store_reader.specs.Headers.{IsReadable}
use Rattle.store_index.specs.Index.{IsIndexOf}
use Rattle.terrain_store.specs.Shapes.{Land}

-- what its header says, the terrain that it stands for, and its bytes
pub record Stored : Type 0 where
  pub head : Head
  pub terrain : Terrain
  pub bytes : List ℕ

-- the bytes stand for the terrain, with this header
abbrev pub IsStored : Stored → Type 0
IsStored store = IsStore store.head store.terrain store.bytes

-- the terrain with its levels
abbrev pub land_of : Stored → Land
land_of store = record { terrain = store.terrain; levels = store.head.levels }

-- the canonical store of version 1, which stands for the terrain itself
abbrev pub packed : Terrain → ℕ → Stored
packed terrain levels = record {
  head = head_of 1 terrain levels 1;
  terrain = terrain;
  bytes = canonical_store 1 terrain levels 1;
}

-- the canonical store of version 2 by a step, which stands for the restored terrain
abbrev pub packed_by : Terrain → ℕ → ℕ → Stored
packed_by terrain levels step = record {
  head = head_of 2 terrain levels step;
  terrain = restored_terrain terrain levels step;
  bytes = canonical_store 2 terrain levels step;
}

-- what a store keeps: bytes that stand for its terrain, the extremes of the terrain, and the offsets that lead to
-- blocks
pub record IsKept (header : Header) (store : Stored) (marks : List ℕ) (least most : ℤ) : Type 0 where
  pub stands : IsStored store
  pub lowest : IsLeast least store.terrain.table
  pub highest : IsGreatest most store.terrain.table
  pub readable : IsReadable header
  pub index : IsIndexOf store.head store.bytes marks
