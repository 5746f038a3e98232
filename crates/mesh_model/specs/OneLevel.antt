-- The mesh of one active region, by closed formulas.
use Rattle.std.specs.Prelude.{ℕ, ◌+◌, ◌-◌, ◌*◌, pos, ◌+ℤ◌, ◌*ℤ◌, List, [], ◌∷◌, map, flat_map}
use Rattle.std.specs.List.{range_with_len}
use Rattle.clip_regions.specs.declared.region.Region.{Region}
use Rattle.clip_regions.specs.Regions.{columns, rows}
use Rattle.terrain_model.specs.Terrain.{Terrain, height_at}
use Rattle.mesh_model.specs.declared.shapes.Vertex.{Vertex}

-- the vertex in column u and row v of a region, both counted from its north-west corner
unfoldable pub one_level_vertex : Terrain → Region → ℕ → ℕ → Vertex
one_level_vertex terrain r v u =
    record {
      x = r.x0 +ℤ pos u;
      z = r.y0 +ℤ pos v;
      height = pos 32 *ℤ height_at terrain (r.x0 +ℤ pos u) (r.y0 +ℤ pos v);
    }

-- row v of a region's vertices, from the west
unfoldable pub one_level_row : Terrain → Region → ℕ → List Vertex
one_level_row terrain r v = map (one_level_vertex terrain r v) (range_with_len 0 (columns r))

-- a region's vertices, row by row from the north
unfoldable pub one_level_vertices : Terrain → Region → List Vertex
one_level_vertices terrain r = flat_map (one_level_row terrain r) (range_with_len 0 (rows r))

-- the two triangles of the square in column u and row v, where a row has this many vertices
unfoldable pub one_level_square : ℕ → ℕ → ℕ → List (List ℕ)
one_level_square width v u =
    let north_west = v * width + u in
    let south_west = (v + 1) * width + u in
    (north_west ∷ south_west ∷ (south_west + 1) ∷ []) ∷ (north_west ∷ (south_west + 1) ∷ (north_west + 1) ∷ []) ∷ []

-- the triangles of row v of the squares, from the west
unfoldable pub one_level_strip : ℕ → ℕ → List (List ℕ)
one_level_strip width v = flat_map (one_level_square width v) (range_with_len 0 (width - 1))

-- a region's triangles, row by row from the north
unfoldable pub one_level_triangles : Region → List (List ℕ)
one_level_triangles r = flat_map (one_level_strip (columns r)) (range_with_len 0 (rows r - 1))
