-- The head, the kept line, the vertices and the triangles, one after another.
use Rattle.std.proofs.Common.{◌≡◌, ◌++◌, length, map, ap, sym, subst, ◌∙◌}
use Rattle.std.specs.List.{flat_map, range_with_len}
use Rattle.std.proofs.lemmas.List.FromFn.{length-map-range_with_len}
use Rattle.mesh_model.specs.Conditions.{NameVertices}
use Rattle.mesh_model.specs.Text.{head_text, triangle_line}
use Rattle.mesh_model.specs.Seen.{flagged_parts, triangles_of_parts, named_places, new_place, kept_line, parts_text}
use Rattle.obj_frames.specs.Renumbering.{numbered, vertex_lines}
use Rattle.obj_frames.proofs.Appended.{four_pieces}
use Rattle.obj_frames.proofs.Renumbered.{parts_name, renumbered_lines}
use Rattle.obj_frames.proofs.views.cull.Goals as goal

pub append_vertices-requires-clause-places : goal.append_vertices-requires-clause-places
append_vertices-requires-clause-places c =
    let parts = flagged_parts c.args.keep.now c.args.mesh.now.parts in
    let seen = c.as_slice.ensures.value ∙ c.in_ok-kept.ensures.triangles in
    subst (λ vertices. NameVertices (length vertices) c.as_slice.result.now) (sym c.vertices.ensures.value)
    (subst (NameVertices (length c.args.mesh.now.vertices)) (sym seen)
    (parts_name (length c.args.mesh.now.vertices) c.args.mesh.now.triangles parts c.vertices.ensures.mesh.places))

pub append_triangles-requires : goal.append_triangles-requires
append_triangles-requires c =
    let parts = flagged_parts c.args.keep.now c.args.mesh.now.parts in
    let seen = c.as_slice-2.ensures.value ∙ c.in_ok-kept.ensures.triangles in
    let long : length c.args.mesh.now.vertices ≡ length c.as_slice-3.result.now =
    sym (ap length (c.as_slice-3.ensures.value ∙ c.in_ok-numbers.ensures.table)
    ∙ length-map-range_with_len (new_place c.as_slice.result.now) 0 (length c.vertices.result.now) ∙ ap length c.vertices.ensures.value) in
    subst (λ n. NameVertices n c.as_slice-2.result.now) long
    (subst (NameVertices (length c.args.mesh.now.vertices)) (sym seen)
    (parts_name (length c.args.mesh.now.vertices) c.args.mesh.now.triangles parts c.vertices.ensures.mesh.places))

pub returns-clause-text : goal.returns-clause-text
unfolding parts_text
returns-clause-text c =
    let mesh = c.args.mesh.now in
    let header = c.args.header.now in
    let parts = flagged_parts c.args.keep.now mesh.parts in
    let triangles = triangles_of_parts mesh.triangles parts in
    let count = length mesh.vertices in
    let named = parts_name count mesh.triangles parts c.vertices.ensures.mesh.places in
    let vertices = c.vertices.ensures.value in
    let seen : c.as_slice.result.now ≡ triangles = c.as_slice.ensures.value ∙ c.in_ok-kept.ensures.triangles in
    let seen-2 : c.as_slice-2.result.now ≡ triangles = c.as_slice-2.ensures.value ∙ c.in_ok-kept.ensures.triangles in
    let table : c.as_slice-3.result.now ≡ map (new_place triangles) (range_with_len 0 count) =
    c.as_slice-3.ensures.value ∙ c.in_ok-numbers.ensures.table ∙ (λ t. map (new_place (seen t)) (range_with_len 0 (length (vertices t)))) in
    four_pieces c.new-text.result.items c.append_head.new.text.items c.append_kept.new.text.items c.append_vertices.new.text.items c.append_triangles.new.text.items
    (head_text header.number header.x header.y header.actives)
    (kept_line c.in_ok-kept.kept.parts (length c.parts.result.now))
    (vertex_lines c.vertices.result.now (named_places c.as_slice.result.now (length c.vertices.result.now)))
    (flat_map (λ triangle. triangle_line (map (numbered c.as_slice-3.result.now) triangle)) c.as_slice-2.result.now)
    c.new-text.ensures.items c.in_ok-append_head.ensures c.in_ok-append_kept.ensures c.in_ok-numbers.ensures.text c.in_ok-append_triangles.ensures
    ∙ (λ t. ((head_text header.number header.x header.y header.actives
    ++ kept_line (c.in_ok-kept.ensures.parts t) (length (c.parts.ensures.value t)))
    ++ vertex_lines (vertices t) (named_places (seen t) (length (vertices t))))
    ++ ((λ s. flat_map (λ triangle. triangle_line (map (numbered c.as_slice-3.result.now) triangle)) (seen-2 s)) ∙ renumbered_lines triangles triangles count c.as_slice-3.result.now table named) t)
