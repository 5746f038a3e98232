-- Ring after ring.
use Rattle.std.proofs.Common.{◌+◌, ◌<◌, ◌≡◌, length, sym, subst, ◌∙◌, ap, arith}
use Rattle.mesh_model.specs.Height.{active_at}
use Rattle.mesh_laws.specs.declared.ring.Ring.{Ring}
use Rattle.mesh_laws.specs.Rings.{next_ring}
use Rattle.mesh_laws.specs.Conditions.{IsBefore}
use Rattle.ring_mesh.specs.Added.{ring_before}
use Rattle.ring_mesh.proofs.UnderWay.{next_place}
use Rattle.ring_mesh.proofs.vertices.ring_before.Goals as goal

pub loop-n-init : goal.loop-n-init
loop-n-init c = (subst (IsBefore c.args.actives.now 0) (sym c.no_ring-finer.ensures.value) (c.rings_are_linked.ensures.first c.args.actives.now), c.no_ring-finer.ensures.value)

pub next_ring-finer-requires-clause-even : goal.next_ring-finer-requires-clause-even
next_ring-finer-requires-clause-even c =
    let low : c.loop-n.n < length c.args.actives.now = omega (arith, c.loop-n-test.true, c.requires) in
    (c.rings_are_linked.ensures.linked c.args.actives.now c.loop-n.n c.loop-n.finer c.levels-levels.ensures.active low c.loop-n.invariant.0).even

pub loop-n-preserved : goal.loop-n-preserved
unfolding active_at
loop-n-preserved c =
    let low : c.loop-n.n < length c.args.actives.now = omega (arith, c.loop-n-test.true, c.requires) in
    let same = c.next_ring-finer.ensures.value ∙ ap (next_ring c.loop-n.finer) c.at.ensures.value in (
      subst (IsBefore c.args.actives.now (c.loop-n.n + 1)) (sym same)
          (c.rings_are_linked.ensures.next c.args.actives.now c.loop-n.n c.loop-n.finer c.levels-levels.ensures.active low c.loop-n.invariant.0),
      same ∙ next_place c.args.actives.now c.loop-n.n c.loop-n.finer c.loop-n.invariant.1,
    )
