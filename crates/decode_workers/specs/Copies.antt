-- Copies of the heights of a frame's active regions.
use Rattle.std.specs.Prelude.{◌≡◌, ℕ, ◌<◌, ◌≤◌, ℤ, List, [], map, length, slice_index_or, slice_set, Vec, vec_capacity}
use Rattle.std.specs.Global.{Global}
use Rattle.clip_regions.specs.declared.region.Region.{Region}
use Rattle.clip_regions.specs.Regions.{area, cells}
use Rattle.terrain_model.specs.Terrain.{Terrain, level_height}
use Rattle.mesh_model.specs.Height.{active_at}
use Rattle.mesh_model.specs.Mesh.{MeshLists, mesh}

-- the heights of a level that were copied, and how many of them there is room for
pub record LevelCopy : Type 0 where
  pub heights : List ℤ
  pub room : ℕ

-- K, the active regions, the finest level first, and a copy for each of their levels
pub record CopiesView : Type 0 where
  pub k : ℕ
  pub actives : List Region
  pub levels : List LevelCopy

-- what a vector of heights is as a copy
abbrev pub copy_in : Vec ℤ Global → LevelCopy
copy_in v = record { heights = v.items; room = vec_capacity v }

-- the copy of a level
abbrev pub no_copy : LevelCopy
no_copy = record { heights = []; room = 0 }

abbrev pub copy_of : CopiesView → ℕ → LevelCopy
copy_of copies level = slice_index_or copies.levels level no_copy

-- the copies with that of one level replaced
abbrev pub with_copy : CopiesView → ℕ → Vec ℤ Global → CopiesView
with_copy copies level v = record {
  k = copies.k;
  actives = copies.actives;
  levels = slice_set copies.levels level (copy_in v);
}

-- of the n finest levels nothing is copied yet, and there is room for their active regions
pub record HaveRoom (actives : List Region) (n : ℕ) (levels : List LevelCopy) : Type 0 where
  pub many : length levels ≡ n
  pub empty : (level : ℕ) → level < n → (slice_index_or levels level no_copy).heights ≡ []
  pub room : (level : ℕ) → level < n → area (active_at actives level) ≤ (slice_index_or levels level no_copy).room

-- copies of a frame of K with these active regions, into which nothing is copied yet, and which have room for all
pub record IsRoom (k : ℕ) (actives : List Region) (copies : CopiesView) : Type 0 where
  pub size : copies.k ≡ k
  pub regions : copies.actives ≡ actives
  pub levels : HaveRoom actives (length actives) copies.levels

-- the level heights of a region's cells, row by row
abbrev pub heights_in : Terrain → ℕ → Region → List ℤ
heights_in terrain level region = map (λ c. level_height terrain level c.0 c.1) (cells region)

-- each level's copy has the terrain's level heights of its active region
abbrev pub AreCopiesOf : Terrain → CopiesView → Type 0
AreCopiesOf terrain copies =
    (level : ℕ) → level < length copies.actives →
    (copy_of copies level).heights ≡ heights_in terrain level (active_at copies.actives level)

-- a terrain of no sample
abbrev pub no_terrain : Terrain
no_terrain = record { width = 0; height = 0; table = [] }

-- so it is for one terrain
pub record AreCopies (copies : CopiesView) : Type 0 where
  pub terrain : Terrain
  pub right : AreCopiesOf terrain copies

-- for each terrain of which they are copies, the mesh is that of the active regions over it
abbrev pub IsMeshOfCopies : CopiesView → MeshLists → Type 0
IsMeshOfCopies copies made =
    (terrain : Terrain) → AreCopiesOf terrain copies → made ≡ mesh terrain copies.k copies.actives
