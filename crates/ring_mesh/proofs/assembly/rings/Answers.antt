-- The three lists are those of the mesh without its stitches.
use Rattle.std.proofs.Common.{◌∙◌, ◌≤◌, length, arith}
use Rattle.ring_mesh.proofs.Whole.{few_triangles, all_levels, is_mesh}
use Rattle.ring_mesh.proofs.assembly.rings.Goals as goal

pub ring_faces-requires-clause-few : goal.ring_faces-requires-clause-few
ring_faces-requires-clause-few g c =
    few_triangles (g.G.Heights.terrain c.args.heights.now) c.args.k c.args.actives.now c.vertices_before-room.ensures.active c.ring_parts_are_square_parts.ensures c.meshes_are_small.ensures.ring_triangles

pub assembled-requires : goal.assembled-requires
assembled-requires g c =
    let terrain = g.G.Heights.terrain c.args.heights.now in
    let high : length c.args.actives.now ≤ c.levels-levels.result = omega (arith, c.levels-levels.ensures.value) in
    let same = all_levels terrain c.args.k c.args.actives.now c.levels-levels.result _ c.as_slice.result.now _ _ high c.vertices_before-room.ensures.active c.ring_parts_are_square_parts.ensures c.in_ok-vertices.ensures.value c.as_slice.ensures.value c.in_ok-faces.ensures.faces in
    is_mesh terrain c.args.k c.args.actives.now _ same c.vertices_before-room.ensures.active c.ring_parts_are_square_parts.ensures
    c.meshes_are_small.ensures.names c.meshes_are_small.ensures.vertices c.meshes_are_small.ensures.ring_triangles c.parts_of_mesh.ensures.cover c.parts_of_mesh.ensures.bounds

pub returns : goal.returns
returns g c =
    let terrain = g.G.Heights.terrain c.args.heights.now in
    let high : length c.args.actives.now ≤ c.levels-levels.result = omega (arith, c.levels-levels.ensures.value) in
    record { value = c.assembled.ensures ∙ all_levels terrain c.args.k c.args.actives.now c.levels-levels.result _ c.as_slice.result.now _ _ high c.vertices_before-room.ensures.active c.ring_parts_are_square_parts.ensures c.in_ok-vertices.ensures.value c.as_slice.ensures.value c.in_ok-faces.ensures.faces }
