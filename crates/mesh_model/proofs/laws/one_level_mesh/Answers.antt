-- The mesh of one active region: each list of the mesh is rewritten by the vertices, the one part and its triangles.
use Rattle.std.proofs.Common.{◌≡◌, ℕ, ◌≤◌, false, [], ◌∷◌, ap, ◌∙◌, append-nil, length}
use Rattle.std.specs.List.{flat_map}
use Rattle.clip_regions.specs.declared.region.Region.{Region}
use Rattle.clip_regions.specs.Regions.{is_empty}
use Rattle.terrain_model.specs.Terrain.{Terrain}
use Rattle.mesh_model.specs.declared.shapes.PartKind.TheVariants.{Whole}
use Rattle.mesh_model.specs.Vertices.{mesh_vertices}
use Rattle.mesh_model.specs.Parts.{PartTriangles, square_part, squares_in, parts_of_regions}
use Rattle.mesh_model.specs.Mesh.{mesh, mesh_of_parts, parts_from, part_at, bounds_of, vertices_of}
use Rattle.mesh_model.specs.OneLevel.{one_level_vertices}
use Rattle.mesh_model.proofs.Single.{single_vertices, single_place, single_part, single_triangles}
use Rattle.mesh_model.proofs.laws.one_level_mesh.Goals as goal

pub returns-clause-vertices : goal.returns-clause-vertices
unfolding mesh mesh_of_parts
returns-clause-vertices c = λ terrain k r high. single_vertices terrain k r high

pub returns-clause-places : goal.returns-clause-places
returns-clause-places c = λ terrain r u v narrow low. single_place terrain r u v narrow low

-- the parts, over the closed form of the vertices
parts_are : (terrain : Terrain) (k : ℕ) (r : Region) → k ≤ 8 → is_empty r ≡ false →
    parts_of_regions (mesh_vertices terrain k (r ∷ [])) (r ∷ []) ≡ square_part (one_level_vertices terrain r) 0 Whole (squares_in r) ∷ []
parts_are terrain k r high some =
    ap (λ vertices. parts_of_regions vertices (r ∷ [])) (single_vertices terrain k r high)
    ∙ single_part (one_level_vertices terrain r) r some

pub returns-clause-triangles : goal.returns-clause-triangles
unfolding mesh mesh_of_parts
returns-clause-triangles c = λ terrain k r high some.
    ap (flat_map (λ (part : PartTriangles). part.triangles)) (parts_are terrain k r high some)
    ∙ append-nil ((square_part (one_level_vertices terrain r) 0 Whole (squares_in r)).triangles)
    ∙ single_triangles terrain r

pub returns-clause-parts : goal.returns-clause-parts
unfolding mesh mesh_of_parts part_at square_part
returns-clause-parts c = λ terrain k r high some.
    (λ t. parts_from (single_vertices terrain k r high t) 0 (parts_are terrain k r high some t))
    ∙ (λ t. record {
      level = 0;
      kind = Whole;
      first = 0;
      count = length (single_triangles terrain r t);
      bounds = bounds_of (vertices_of (one_level_vertices terrain r) (single_triangles terrain r t));
    } ∷ [])
