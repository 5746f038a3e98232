-- The mesh of a frame without its stitches.
use Rattle.std.specs.Prelude.{ℕ, List}
use Rattle.clip_regions.specs.declared.region.Region.{Region}
use Rattle.clip_regions.specs.Regions.{empty_region}
use Rattle.terrain_model.specs.Terrain.{Terrain}
use Rattle.mesh_model.specs.Vertices.{mesh_vertices}
use Rattle.mesh_model.specs.Parts.{square_parts_from}
use Rattle.mesh_model.specs.Mesh.{MeshLists, mesh_of_parts}

-- the mesh of these active regions without its stitches: all vertices, and the squares of each level
unfoldable pub unstitched : Terrain → ℕ → List Region → MeshLists
unstitched terrain k actives =
    let vertices = mesh_vertices terrain k actives in
    mesh_of_parts vertices (square_parts_from vertices 0 empty_region actives)
