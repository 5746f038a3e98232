-- Ring after ring.
use Rattle.std.proofs.Common.{◌≡◌, ℕ, ◌+◌, ◌<◌, ◌^◌, ◌≤◌, List, [], length, sym, ◌∙◌, subst, ap, arith}
use Rattle.clip_regions.specs.declared.region.Region.{Region}
use Rattle.mesh_model.specs.declared.shapes.Vertex.{Vertex}
use Rattle.mesh_model.specs.declared.shapes.Part.{Part}
use Rattle.mesh_model.specs.Height.{active_at}
use Rattle.mesh_laws.specs.declared.ring.Ring.{Ring}
use Rattle.mesh_laws.specs.Rings.{next_ring, ring_parts}
use Rattle.mesh_laws.specs.Conditions.{AreLinked, IsBefore}
use Rattle.ring_mesh.specs.Added.{Adds, AreFaces, IsUnderWay, ring_before, triangles_of}
use Rattle.ring_mesh.proofs.UnderWay.{start, step, few, made}
use Rattle.ring_mesh.proofs.faces.ring_faces.Goals as goal

started : (vertices : List Vertex) (actives : List Region) (from : ℕ) (finer : Ring) (t : List (List ℕ)) (p : List Part) → t ≡ [] → p ≡ [] → IsBefore actives from finer → finer ≡ ring_before actives from → IsUnderWay vertices actives from from finer t p
started vertices actives from finer t p et ep before place =
    subst (λ x. IsUnderWay vertices actives from from finer x p) (sym et) (subst (λ x. IsUnderWay vertices actives from from finer [] x) (sym ep) (start vertices actives from finer before place))

pub loop-level-init : goal.loop-level-init
loop-level-init c = (c.requires.order, started c.args.vertices.now c.args.actives.now c.args.from c.ring_before-finer.result c.in_ok-with_capacity.field-0.items c.new.result.items c.in_ok-with_capacity.ensures.items c.new.ensures.items c.ring_before-finer.ensures.before c.ring_before-finer.ensures.ring)

-- the ring of the code is that of the definition
ring_is : (actives : List Region) (level : ℕ) (finer ring : Ring) (active : Region) → active ≡ active_at actives level → ring ≡ next_ring finer active → ring ≡ next_ring finer (active_at actives level)
ring_is actives level finer ring active ea er = er ∙ ap (next_ring finer) ea

pub next_ring-ring-requires-clause-even : goal.next_ring-ring-requires-clause-even
next_ring-ring-requires-clause-even c =
    let low : c.loop-level.level < length c.args.actives.now = omega (arith, c.loop-level-test.true, c.requires.levels) in
    (c.rings_are_linked.ensures.linked c.args.actives.now c.loop-level.level c.loop-level.finer c.ring_before-finer.ensures.active low c.loop-level.invariant.1.before).even

pub add_ring-requires-clause-linked : goal.add_ring-requires-clause-linked
unfolding active_at
add_ring-requires-clause-linked c =
    let low : c.loop-level.level < length c.args.actives.now = omega (arith, c.loop-level-test.true, c.requires.levels) in
    subst (λ (r : Ring). AreLinked c.loop-level.finer r) (sym (ring_is c.args.actives.now c.loop-level.level c.loop-level.finer c.next_ring-ring.result c.at.result c.at.ensures.value c.next_ring-ring.ensures.value))
    (c.rings_are_linked.ensures.linked c.args.actives.now c.loop-level.level c.loop-level.finer c.ring_before-finer.ensures.active low c.loop-level.invariant.1.before)

pub add_ring-requires-clause-few : goal.add_ring-requires-clause-few
unfolding active_at
add_ring-requires-clause-few c =
    let low : c.loop-level.level < length c.args.actives.now = omega (arith, c.loop-level-test.true, c.requires.levels) in
    subst (λ (r : Ring). length c.loop-level.faces.triangles.items + length (triangles_of (ring_parts c.loop-level.level c.loop-level.finer r)) < 2 ^ 31) (sym (ring_is c.args.actives.now c.loop-level.level c.loop-level.finer c.next_ring-ring.result c.at.result c.at.ensures.value c.next_ring-ring.ensures.value))
    (few c.args.vertices.now c.args.actives.now c.args.from c.loop-level.level c.loop-level.finer c.loop-level.faces.triangles.items c.loop-level.faces.parts.items (2 ^ 31) low (omega (arith, c.requires.order, c.requires.levels)) c.loop-level.invariant.1 c.requires.few)

pub loop-level-preserved : goal.loop-level-preserved
unfolding active_at
loop-level-preserved c =
    let v = c.args.vertices.now in
    let as' = c.args.actives.now in
    let level = c.loop-level.level in
    let finer = c.loop-level.finer in
    let t = c.loop-level.faces.triangles.items in
    let p = c.loop-level.faces.parts.items in
    let t1 = c.add_ring.new.faces.triangles.items in
    let p1 = c.add_ring.new.faces.parts.items in
    let low : level < length as' = omega (arith, c.loop-level-test.true, c.requires.levels) in
    let ring = next_ring finer (active_at as' level) in
    let e = ring_is as' level finer c.next_ring-ring.result c.at.result c.at.ensures.value c.next_ring-ring.ensures.value in
    let added : Adds v (ring_parts level finer ring) t p t1 p1 = subst (λ (r : Ring). Adds v (ring_parts level finer r) t p t1 p1) e c.in_ok-add_ring.ensures in (
      omega (arith, c.loop-level-test.true),
      subst (λ (r : Ring). IsUnderWay v as' c.args.from (level + 1) r t1 p1) (sym e)
          (step v as' c.args.from level finer t t1 p p1 low c.loop-level.invariant.1 added (c.rings_are_linked.ensures.next as' level finer c.ring_before-finer.ensures.active low c.loop-level.invariant.1.before)),
    )

pub returns : goal.returns
returns c =
    let end : c.loop-level.level ≡ c.args.to = omega (arith, c.loop-level-test.false, c.loop-level.invariant.0) in
    record {
      faces = subst (λ (n : ℕ). AreFaces c.args.vertices.now c.args.actives.now c.args.from n c.loop-level.faces.triangles.items c.loop-level.faces.parts.items) end
          (made c.args.vertices.now c.args.actives.now c.args.from c.loop-level.level c.loop-level.finer c.loop-level.faces.triangles.items c.loop-level.faces.parts.items c.loop-level.invariant.1);
    }
