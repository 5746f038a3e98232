-- The vertices of a mesh, in their order, and the place of a vertex among them.
use Rattle.std.specs.Prelude.{ℕ, ◌+◌, ◌^◌, not, ◌&&◌, ℤ, pos, ◌*ℤ◌, List, [], ◌∷◌, ◌++◌, map, filter, if◌then◌else◌, slice_index_or}
use Rattle.std.specs.Ordering.{int_eq}
use Rattle.clip_regions.specs.declared.region.Region.{Region}
use Rattle.clip_regions.specs.Regions.{contains, is_empty, empty_region, halve, cells}
use Rattle.terrain_model.specs.Terrain.{Terrain}
use Rattle.mesh_model.specs.declared.shapes.Vertex.{Vertex}
use Rattle.mesh_model.specs.Height.{vertex_height}

-- a cell of a level: column i and row j
pub record LevelCell : Type 0 where
  pub level : ℕ
  pub i : ℤ
  pub j : ℤ

-- what a finer active region leaves out of the next coarser one: its half, and nothing where it is empty
unfoldable pub hole : Region → Region
hole finer = if is_empty finer then empty_region else halve finer

-- the cells of an active region that lie neither in the hole nor on its border, row by row
unfoldable pub cells_outside : Region → Region → List (ℤ × ℤ)
cells_outside finer active = filter (λ cell. not (contains (hole finer) cell.0 cell.1)) (cells active)

-- those cells of each of the regions, from this level on, whose next finer region is given
abbrev pub listed_from : ℕ → Region → List Region → List LevelCell
listed_from level finer [] = []
listed_from level finer (active ∷ coarser) =
    map (λ cell. record { level = level; i = cell.0; j = cell.1 }) (cells_outside finer active)
    ++ listed_from (level + 1) active coarser

-- the cells at which a mesh has its vertices, finest level first: each position once, at the finest level that has it
abbrev pub listed_vertices : List Region → List LevelCell
listed_vertices actives = listed_from 0 empty_region actives

-- the vertex at a cell
unfoldable pub vertex_at : Terrain → ℕ → List Region → LevelCell → Vertex
vertex_at terrain k actives cell =
    record {
      x = cell.i *ℤ pos (2 ^ cell.level);
      z = cell.j *ℤ pos (2 ^ cell.level);
      height = vertex_height terrain k actives cell.level cell.i cell.j;
    }

-- the vertices of a mesh, in their order
unfoldable pub mesh_vertices : Terrain → ℕ → List Region → List Vertex
mesh_vertices terrain k actives = map (vertex_at terrain k actives) (listed_vertices actives)

-- the place, counted from 0, of the first vertex at column x and row z, or the number of vertices where there is none
abbrev pub place_of : List Vertex → ℤ → ℤ → ℕ
place_of [] x z = 0
place_of (vertex ∷ vertices) x z =
    if int_eq vertex.x x && int_eq vertex.z z then 0 else place_of vertices x z + 1

-- the vertex at a place, and the origin where there is none
abbrev pub vertex_of_place : List Vertex → ℕ → Vertex
vertex_of_place vertices place = slice_index_or vertices place (record { x = pos 0; z = pos 0; height = pos 0 })
