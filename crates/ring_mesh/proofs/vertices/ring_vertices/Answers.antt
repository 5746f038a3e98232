-- Ring after ring.
use Rattle.std.proofs.Common.{◌≡◌, ℕ, ◌+◌, ◌<◌, ◌≤◌, List, [], ◌++◌, length, sym, subst, ◌∙◌, ap, arith}
use Rattle.clip_regions.specs.declared.region.Region.{Region}
use Rattle.terrain_model.specs.Terrain.{Terrain}
use Rattle.mesh_model.specs.declared.shapes.Vertex.{Vertex}
use Rattle.mesh_model.specs.Height.{active_at}
use Rattle.mesh_laws.specs.declared.ring.Ring.{Ring}
use Rattle.mesh_laws.specs.Rings.{no_ring, next_ring}
use Rattle.mesh_laws.specs.Conditions.{IsBefore, IsRing}
use Rattle.ring_mesh.specs.Listed.{vertices_at, ring_cells, vertices_left, IsListed}
use Rattle.ring_mesh.proofs.RingRows.{first_listed, next_listed, listed_before}
use Rattle.ring_mesh.proofs.vertices.ring_vertices.Goals as goal

pub loop-level-init : goal.loop-level-init
loop-level-init g c = (
  c.requires.order,
  subst (IsListed (g.G.Heights.terrain c.args.heights.now) c.args.k c.args.actives.now c.args.from c.args.from c.ring_before-finer.result) (sym c.in_ok-vertices.ensures.items)
      (first_listed (g.G.Heights.terrain c.args.heights.now) c.args.k c.args.actives.now c.args.from c.ring_before-finer.result c.ring_before-finer.ensures.before),
)

pub next_ring-ring-requires-clause-even : goal.next_ring-ring-requires-clause-even
next_ring-ring-requires-clause-even g c =
    let low : c.loop-level.level < length c.args.actives.now = omega (arith, c.loop-level-test.true, c.requires.levels) in
    (c.rings_are_linked.ensures.linked c.args.actives.now c.loop-level.level c.loop-level.finer c.ring_before-finer.ensures.active low c.loop-level.invariant.1.before).even

pub add_ring-requires-clause-ring : goal.add_ring-requires-clause-ring
unfolding active_at
add_ring-requires-clause-ring g c =
    let low : c.loop-level.level < length c.args.actives.now = omega (arith, c.loop-level-test.true, c.requires.levels) in
    subst IsRing (sym (c.next_ring-ring.ensures.value ∙ ap (next_ring c.loop-level.finer) c.at.ensures.value))
    (c.rings_are_linked.ensures.linked c.args.actives.now c.loop-level.level c.loop-level.finer c.ring_before-finer.ensures.active low c.loop-level.invariant.1.before).own

pub add_ring-requires-clause-region : goal.add_ring-requires-clause-region
unfolding active_at next_ring
add_ring-requires-clause-region g c =
    ap (λ (r : Ring). r.active) c.next_ring-ring.ensures.value ∙ c.at.ensures.value

pub loop-level-preserved : goal.loop-level-preserved
unfolding active_at
loop-level-preserved g c =
    let terrain = g.G.Heights.terrain c.args.heights.now in
    let k = c.args.k in
    let actives = c.args.actives.now in
    let level = c.loop-level.level in
    let finer = c.loop-level.finer in
    let low : level < length actives = omega (arith, c.loop-level-test.true, c.requires.levels) in
    let e = c.next_ring-ring.ensures.value ∙ ap (next_ring finer) c.at.ensures.value in
    let added : c.add_ring.new.vertices.items ≡ c.loop-level.vertices.items ++ vertices_at terrain k actives level (ring_cells (next_ring finer (active_at actives level))) =
    subst (λ (r : Ring). c.add_ring.new.vertices.items ≡ c.loop-level.vertices.items ++ vertices_at terrain k actives level (ring_cells r)) e c.in_ok-add_ring.ensures in (
      omega (arith, c.loop-level-test.true),
      subst (λ (r : Ring). IsListed terrain k actives c.args.from (level + 1) r c.add_ring.new.vertices.items) (sym e)
          (next_listed terrain k actives c.args.from level finer c.loop-level.vertices.items c.add_ring.new.vertices.items low c.rings_have_rows.ensures.rows c.loop-level.invariant.1 added
          (c.rings_are_linked.ensures.next actives level finer c.ring_before-finer.ensures.active low c.loop-level.invariant.1.before)),
    )

pub returns : goal.returns
returns g c =
    let end : c.loop-level.level ≡ c.args.to = omega (arith, c.loop-level-test.false, c.loop-level.invariant.0) in
    record {
      value = subst (λ (n : ℕ). c.loop-level.vertices.items ++ vertices_left (g.G.Heights.terrain c.args.heights.now) c.args.k c.args.actives.now n ≡ vertices_left (g.G.Heights.terrain c.args.heights.now) c.args.k c.args.actives.now c.args.from) end
          (listed_before (g.G.Heights.terrain c.args.heights.now) c.args.k c.args.actives.now c.args.from c.loop-level.level c.loop-level.finer c.loop-level.vertices.items c.loop-level.invariant.1);
    }
