-- A mesh has as many vertices as it lists cells.
use Rattle.std.proofs.Common.{◌≡◌, ℕ, ◌<◌, ◌^◌, List, length, ap, sym, ◌∙◌, subst}
use Rattle.clip_regions.specs.declared.region.Region.{Region}
use Rattle.terrain_model.specs.Terrain.{Terrain}
use Rattle.mesh_model.specs.Mesh.{MeshLists, mesh, mesh_of_parts}
use Rattle.mesh_model.specs.Vertices.{listed_vertices}
use Rattle.mesh_plain.proofs.Alike.{vertex_count}
use Rattle.mesh_plain.proofs.whole_texts.kept_text.Goals as goal

as_many : (terrain : Terrain) (k : ℕ) (actives : List Region) → length (mesh terrain k actives).vertices ≡ length (listed_vertices actives)
unfolding mesh mesh_of_parts
as_many terrain k actives = vertex_count terrain k actives

pub seen_text-requires : goal.seen_text-requires
seen_text-requires c =
    let same : c.vertices.result.now ≡ (mesh c.args.terrain.now c.args.k c.args.actives.now).vertices = c.vertices.ensures.value ∙ ap (λ (lists : MeshLists). lists.vertices) c.in_ok-lists.ensures.value in
    record { few = subst (λ (n : ℕ). n < 2 ^ 31) (sym (ap length same ∙ as_many c.args.terrain.now c.args.k c.args.actives.now)) c.requires.few_vertices }
