-- What it is to close a mesh.
use Rattle.std.specs.Prelude.{◌≡◌, ℕ, List}
use Rattle.clip_regions.specs.declared.region.Region.{Region}
use Rattle.terrain_model.specs.Terrain.{Terrain}
use Rattle.mesh_model.specs.Mesh.{MeshLists, mesh}
use Rattle.mesh_model.specs.Rings.{unstitched}

-- the lists are the mesh of these active regions without its stitches, for some terrain and some K
pub record IsRingMesh (actives : List Region) (lists : MeshLists) : Type 0 where
  pub terrain : Terrain
  pub k : ℕ
  pub same : lists ≡ unstitched terrain k actives

-- for each terrain and K of which the first lists are the mesh without its stitches, the others are the mesh
abbrev pub IsClosed : List Region → MeshLists → MeshLists → Type 0
IsClosed actives open' closed =
    (terrain : Terrain) (k : ℕ) → open' ≡ unstitched terrain k actives → closed ≡ mesh terrain k actives
