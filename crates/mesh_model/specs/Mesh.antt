-- The mesh of a frame: vertices, triangles and parts.
use Rattle.std.specs.Prelude.{ℕ, ◌+◌, ℤ, pos, List, [], ◌∷◌, length, map, flat_map, fold}
use Rattle.std.specs.Int.{int_min, int_max}
use Rattle.clip_regions.specs.declared.region.Region.{Region}
use Rattle.terrain_model.specs.Terrain.{Terrain}
use Rattle.mesh_model.specs.declared.shapes.Vertex.{Vertex}
use Rattle.mesh_model.specs.declared.shapes.Bounds.{Bounds}
use Rattle.mesh_model.specs.declared.shapes.Part.{Part}
use Rattle.mesh_model.specs.Vertices.{mesh_vertices, vertex_of_place}
use Rattle.mesh_model.specs.Parts.{PartTriangles, parts_of_regions}

-- the lists of a mesh: its vertices, its triangles as the places of three vertices each, counted from 0, and its parts
pub record MeshLists : Type 0 where
  pub vertices : List Vertex
  pub triangles : List (List ℕ)
  pub parts : List Part

-- the least and the greatest number of a list, and 0 where it is empty
abbrev pub least : List ℤ → ℤ
least [] = pos 0
least (x ∷ xs) = fold int_min x xs

abbrev pub greatest : List ℤ → ℤ
greatest [] = pos 0
greatest (x ∷ xs) = fold int_max x xs

-- the vertices of some triangles, in order
unfoldable pub vertices_of : List Vertex → List (List ℕ) → List Vertex
vertices_of vertices triangles =
    flat_map (λ triangle. map (vertex_of_place vertices) triangle) triangles

-- the least and greatest column, row and height of some vertices
unfoldable pub bounds_of : List Vertex → Bounds
bounds_of vertices =
    record {
      x0 = least (map (λ v. v.x) vertices);
      x1 = greatest (map (λ v. v.x) vertices);
      z0 = least (map (λ v. v.z) vertices);
      z1 = greatest (map (λ v. v.z) vertices);
      low = least (map (λ v. v.height) vertices);
      high = greatest (map (λ v. v.height) vertices);
    }

-- a part whose first triangle has this place among those of the mesh
unfoldable pub part_at : List Vertex → ℕ → PartTriangles → Part
part_at vertices first part =
    record {
      level = part.level;
      kind = part.kind;
      first = first;
      count = length part.triangles;
      bounds = bounds_of (vertices_of vertices part.triangles);
    }

-- parts one after another, the first of them at this place
abbrev pub parts_from : List Vertex → ℕ → List PartTriangles → List Part
parts_from vertices first [] = []
parts_from vertices first (part ∷ parts) =
    part_at vertices first part ∷ parts_from vertices (first + length part.triangles) parts

-- the mesh with these vertices and parts
unfoldable pub mesh_of_parts : List Vertex → List PartTriangles → MeshLists
mesh_of_parts vertices parts =
    record {
      vertices = vertices;
      triangles = flat_map (λ part. part.triangles) parts;
      parts = parts_from vertices 0 parts;
    }

-- the mesh of a terrain for blends of this k and these active regions, finest first
unfoldable pub mesh : Terrain → ℕ → List Region → MeshLists
mesh terrain k actives =
    let vertices = mesh_vertices terrain k actives in
    mesh_of_parts vertices (parts_of_regions vertices actives)
