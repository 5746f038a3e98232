use Rattle.std.proofs.Common.{◌≡◌, ◌++◌, pos, ◌+ℤ◌}
use Rattle.std.specs.List.{flat_map, range_with_len}
use Rattle.mesh_laws.specs.Rings.{ring_row}
use Rattle.ring_mesh.specs.Listed.{vertices_at}
use Rattle.ring_mesh.proofs.vertices.add_ring.Given as goal

abbrev pub invariant-loop-v : goal.invariant-loop-v
invariant-loop-v g l =
    l.vertices.items ≡ l.fn.vertices.items ++ flat_map (λ v. vertices_at (g.G.Heights.terrain l.heights) l.k l.actives l.level (ring_row l.ring.hole l.ring.active (l.ring.active.y0 +ℤ pos v))) (range_with_len 0 l.v)
