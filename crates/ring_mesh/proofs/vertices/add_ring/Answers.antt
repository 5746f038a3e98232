-- One row more.
use Rattle.std.proofs.Common.{◌≡◌, ◌++◌, pos, ◌+ℤ◌, ap, sym, ◌∙◌, arith}
use Rattle.std.specs.List.{flat_map, range_with_len}
use Rattle.clip_regions.specs.Regions.{rows}
use Rattle.mesh_laws.specs.Rings.{ring_row}
use Rattle.ring_mesh.specs.Listed.{vertices_at}
use Rattle.ring_mesh.proofs.Lists.{flat_map_more}
use Rattle.ring_mesh.proofs.RingRows.{by_rows}
use Rattle.ring_mesh.proofs.vertices.add_ring.Goals as goal

pub loop-v-preserved : goal.loop-v-preserved
loop-v-preserved g c =
    let ring = c.args.ring.now in
    flat_map_more (λ v. vertices_at (g.G.Heights.terrain c.args.heights.now) c.args.k c.args.actives.now c.args.level (ring_row ring.hole ring.active (ring.active.y0 +ℤ pos v)))
    c.args.vertices.now.items c.loop-v.vertices.items c.add_row.new.vertices.items c.loop-v.v c.loop-v.invariant c.in_ok-add_row.ensures

pub returns : goal.returns
returns g c =
    let terrain = g.G.Heights.terrain c.args.heights.now in
    let ring = c.args.ring.now in
    let all : c.loop-v.v ≡ rows ring.active = omega (arith, c.rows-v-end.ensures.value) in
    c.loop-v.invariant
    ∙ ap (λ n. c.args.vertices.now.items ++ flat_map (λ v. vertices_at terrain c.args.k c.args.actives.now c.args.level (ring_row ring.hole ring.active (ring.active.y0 +ℤ pos v))) (range_with_len 0 n)) all
    ∙ ap (λ xs. c.args.vertices.now.items ++ xs) (sym (by_rows terrain c.args.k c.args.actives.now c.args.level ring))
