-- Ring after ring.
use Rattle.std.proofs.Common.{◌≡◌, ℕ, ◌+◌, ◌-◌, ◌<◌, ◌≤◌, List, length, drop, refl, sym, subst, ◌∙◌, arith}
use Rattle.clip_regions.specs.declared.region.Region.{Region}
use Rattle.plan_model.specs.Laws.{IsEvenOrEmpty}
use Rattle.mesh_model.specs.Height.{active_at}
use Rattle.mesh_model.specs.Parts.{PartTriangles}
use Rattle.mesh_laws.specs.declared.ring.Ring.{Ring}
use Rattle.mesh_laws.specs.Rings.{no_ring, next_ring}
use Rattle.mesh_laws.specs.Stitches.{ring_stitches, ring_stitches_from, all_ring_stitches}
use Rattle.mesh_laws.specs.Conditions.{IsRing, IsBefore}
use Rattle.stitches.specs.Adding.{IsLeft}
use Rattle.stitches.proofs.Added.{start, step, finish, first_few, all_levels, next_level, no_level}
use Rattle.stitches.proofs.borders.add_stitches.Goals as goal

pub next_ring-ring-requires-clause-ring : goal.next_ring-ring-requires-clause-ring
next_ring-ring-requires-clause-ring c =
    subst IsRing (sym c.no_ring.ensures.value) (c.rings_are_linked.ensures.first c.args.actives.now).own

pub next_ring-ring-requires-clause-even : goal.next_ring-ring-requires-clause-even
next_ring-ring-requires-clause-even c =
    let actives = c.args.actives.now in
    let drawn = c.levels-levels.ensures.active in
    let many = drawn.drawn.many.low in
    let some : 0 < length actives = omega arith in
    subst (λ (r : Ring). IsEvenOrEmpty r.active) (sym c.no_ring.ensures.value)
    (c.rings_are_linked.ensures.linked actives 0 no_ring drawn some (c.rings_are_linked.ensures.first actives)).even

-- the ring of the code is that of the definition
ring_is : (actives : List Region) (level : ℕ) (finer finer' ring : Ring) (active : Region) → finer' ≡ finer → active ≡ active_at actives level → ring ≡ next_ring finer' active → ring ≡ next_ring finer (active_at actives level)
ring_is actives level finer finer' ring active ef ea er = er ∙ (λ t. next_ring (ef t) (ea t))

pub loop-level-init : goal.loop-level-init
unfolding active_at
loop-level-init c =
    let v = c.args.vertices.now in
    let actives = c.args.actives.now in
    let t = c.args.faces.now.triangles.items in
    let p = c.args.faces.now.parts.items in
    let all = all_ring_stitches actives in
    let drawn = c.levels-levels.ensures.active in
    let many = drawn.drawn.many.low in
    let some : 0 < length actives = omega arith in
    let e = ring_is actives 0 no_ring c.no_ring.result c.next_ring-ring.result c.at.result c.no_ring.ensures.value c.at.ensures.value c.next_ring-ring.ensures.value in
    subst (λ (r : Ring). record { before : IsBefore actives 1 r; left : IsLeft v all (ring_stitches_from 0 r (drop 1 actives)) t p t p }) (sym e) (record {
      before = c.rings_are_linked.ensures.next actives 0 no_ring drawn some (c.rings_are_linked.ensures.first actives);
      left = subst (λ (left : List PartTriangles). IsLeft v all left t p t p) (all_levels actives some) (start v all t p c.requires.few);
    })

pub add_border-requires-clause-even : goal.add_border-requires-clause-even
add_border-requires-clause-even c =
    let actives = c.args.actives.now in
    let low : c.loop-level.level < length actives = omega (arith, c.loop-level-test.true, c.levels-levels.ensures.value) in
    (c.rings_are_linked.ensures.linked actives c.loop-level.level c.loop-level.ring c.levels-levels.ensures.active low c.loop-level.invariant.before).even

pub add_border-requires-clause-few : goal.add_border-requires-clause-few
add_border-requires-clause-few c =
    let actives = c.args.actives.now in
    let level = c.loop-level.level in
    let ring = c.loop-level.ring in
    let low : level < length actives = omega (arith, c.loop-level-test.true, c.levels-levels.ensures.value) in
    first_few c.args.vertices.now (all_ring_stitches actives) (ring_stitches (level - 1) ring) (ring_stitches_from (level - 1 + 1) (next_ring ring (active_at actives level)) (drop (level + 1) actives)) (ring_stitches_from (level - 1) ring (drop level actives))
    c.args.faces.now.triangles.items c.loop-level.faces.triangles.items c.args.faces.now.parts.items c.loop-level.faces.parts.items c.parts_add_up.ensures.few_first (next_level actives ring level low) c.loop-level.invariant.left

pub next_ring-ring-requires-in-loop-level-clause-even : goal.next_ring-ring-requires-in-loop-level-clause-even
next_ring-ring-requires-in-loop-level-clause-even c =
    let actives = c.args.actives.now in
    let low : c.loop-level.level < length actives = omega (arith, c.loop-level-test.true, c.levels-levels.ensures.value) in
    (c.rings_are_linked.ensures.linked actives c.loop-level.level c.loop-level.ring c.levels-levels.ensures.active low c.loop-level.invariant.before).even

pub loop-level-preserved : goal.loop-level-preserved
unfolding active_at
loop-level-preserved c =
    let v = c.args.vertices.now in
    let actives = c.args.actives.now in
    let level = c.loop-level.level in
    let ring = c.loop-level.ring in
    let t = c.args.faces.now.triangles.items in
    let p = c.args.faces.now.parts.items in
    let t2 = c.add_border.new.faces.triangles.items in
    let p2 = c.add_border.new.faces.parts.items in
    let all = all_ring_stitches actives in
    let next = next_ring ring (active_at actives level) in
    let drawn = c.levels-levels.ensures.active in
    let low : level < length actives = omega (arith, c.loop-level-test.true, c.levels-levels.ensures.value) in
    let same : level - 1 + 1 ≡ level + 1 - 1 = omega (arith, c.loop-level.auto.level) in
    let e = ring_is actives level ring ring c.next_ring-ring-in-loop-level.result c.at-in-loop-level.result refl c.at-in-loop-level.ensures.value c.next_ring-ring-in-loop-level.ensures.value in
    let left : IsLeft v all (ring_stitches_from (level - 1 + 1) next (drop (level + 1) actives)) t p t2 p2 =
    step v all (ring_stitches (level - 1) ring) (ring_stitches_from (level - 1 + 1) next (drop (level + 1) actives)) (ring_stitches_from (level - 1) ring (drop level actives))
    t c.loop-level.faces.triangles.items t2 p c.loop-level.faces.parts.items p2 c.parts_add_up.ensures.rest c.parts_add_up.ensures.few_rest (next_level actives ring level low) c.loop-level.invariant.left c.in_ok-add_border.ensures in
    subst (λ (r : Ring). record { before : IsBefore actives (level + 1) r; left : IsLeft v all (ring_stitches_from (level + 1 - 1) r (drop (level + 1) actives)) t p t2 p2 }) (sym e) (record {
      before = c.rings_are_linked.ensures.next actives level ring drawn low c.loop-level.invariant.before;
      left = subst (λ (n : ℕ). IsLeft v all (ring_stitches_from n next (drop (level + 1) actives)) t p t2 p2) same left;
    })

pub returns : goal.returns
returns c =
    let actives = c.args.actives.now in
    let level = c.loop-level.level in
    let high : length actives ≤ level = omega (arith, c.loop-level-test.false, c.levels-levels.ensures.value) in
    finish c.args.vertices.now (all_ring_stitches actives) (ring_stitches_from (level - 1) c.loop-level.ring (drop level actives))
    c.args.faces.now.triangles.items c.loop-level.faces.triangles.items c.args.faces.now.parts.items c.loop-level.faces.parts.items (no_level actives c.loop-level.ring level high) c.loop-level.invariant.left
