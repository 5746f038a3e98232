-- The frame of whole windows round a viewer.
use Rattle.std.specs.Prelude.{ℕ, ℤ, List, map}
use Rattle.std.specs.List.{range_with_len}
use Rattle.clip_regions.specs.declared.region.Region.{Region}
use Rattle.terrain_model.specs.Terrain.{Terrain}
use Rattle.plan_model.specs.Window.{window}
use Rattle.plan_model.specs.Actives.{actives}
use Rattle.mesh_model.specs.Mesh.{MeshLists, mesh}

-- the windows of so many levels round a viewer, the finest first
unfoldable pub whole_windows : ℕ → ℕ → ℤ → ℤ → List Region
whole_windows k levels x y = map (λ level. window k level x y) (range_with_len 0 levels)

-- the active regions of a frame with all of these windows filled and every level in use
unfoldable pub whole_regions : ℕ → ℕ → ℤ → ℤ → List Region
whole_regions k levels x y = actives k 0 (whole_windows k levels x y)

-- the mesh of that frame over a terrain
unfoldable pub whole_mesh : ℕ → ℕ → ℤ → ℤ → Terrain → MeshLists
whole_mesh k levels x y terrain = mesh terrain k (whole_regions k levels x y)
