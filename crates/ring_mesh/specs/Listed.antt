-- The vertices of cells of a level, and what is still to be listed of a mesh.
use Rattle.std.specs.Prelude.{◌≡◌, ℕ, ◌+◌, ◌^◌, ◌<◌, false, ℤ, pos, ◌+ℤ◌, ◌≤ℤ◌, List, ◌++◌, map, flat_map, drop, length}
use Rattle.clip_regions.specs.declared.region.Region.{Region}
use Rattle.clip_regions.specs.Regions.{rows, numbers_from, IsWithin}
use Rattle.plan_model.specs.Limits.{IsSize}
use Rattle.terrain_model.specs.Terrain.{Terrain, level_height}
use Rattle.mesh_model.specs.declared.shapes.Vertex.{Vertex}
use Rattle.mesh_model.specs.Height.{active_at, lower_end, upper_end, blended_height}
use Rattle.mesh_model.specs.Vertices.{vertex_at, listed_from}
use Rattle.active_region.specs.Active.{AreActive}
use Rattle.mesh_laws.specs.declared.ring.Ring.{Ring}
use Rattle.mesh_laws.specs.Rings.{ring_row, finer_of}
use Rattle.mesh_laws.specs.Conditions.{IsBefore}

-- the level is one of a frame's active regions, and heights for these are at hand, which name the same regions
pub record HasHeights (k : ℕ) (actives : List Region) (level : ℕ) (regions : List Region) : Type 0 where
  pub size : IsSize k
  pub active : AreActive actives
  pub low : level < length actives
  pub same : regions ≡ actives

-- the height of a vertex of a level that isn't the coarsest, whose own height is given
unfoldable pub coarser_mean : Terrain → ℕ → List Region → ℕ → ℤ → ℤ → ℤ → ℤ
coarser_mean terrain k actives level i j own =
    blended_height k false (active_at actives level) i j own
    (level_height terrain (level + 1) (lower_end i) (lower_end j))
    (level_height terrain (level + 1) (upper_end i) (upper_end j))

-- the vertices at these cells of a level
unfoldable pub vertices_at : Terrain → ℕ → List Region → ℕ → List (ℤ × ℤ) → List Vertex
vertices_at terrain k actives level cells =
    map (λ cell. vertex_at terrain k actives (record { level = level; i = cell.0; j = cell.1 })) cells

-- n cells of row j, from column i on, lie in the region
pub record HasRun (r : Region) (i j : ℤ) (n : ℕ) : Type 0 where
  pub near : IsWithin (2 ^ 24) r
  pub west : r.x0 ≤ℤ i
  pub east : (u : ℕ) → u < n → (i +ℤ pos u) ≤ℤ r.x1
  pub north : r.y0 ≤ℤ j
  pub south : j ≤ℤ r.y1

-- the cells that a ring lists, row by row
unfoldable pub ring_cells : Ring → List (ℤ × ℤ)
ring_cells ring = flat_map (ring_row ring.hole ring.active) (numbers_from ring.active.y0 (rows ring.active))

-- the vertices of the levels from this one on
abbrev pub vertices_left : Terrain → ℕ → List Region → ℕ → List Vertex
vertices_left terrain k actives level =
    map (vertex_at terrain k actives) (listed_from level (finer_of actives level) (drop level actives))

-- the vertices of the levels from one to the last below another are listed, and those from that one on are left
pub record IsListed (terrain : Terrain) (k : ℕ) (actives : List Region) (from level : ℕ) (finer : Ring)
    (vertices : List Vertex) : Type 0 where
  pub before : IsBefore actives level finer
  pub left :
      vertices ++ map (vertex_at terrain k actives) (listed_from level finer.active (drop level actives))
      ≡ vertices_left terrain k actives from
