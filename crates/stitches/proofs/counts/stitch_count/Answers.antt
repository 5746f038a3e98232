-- Level by level.
use Rattle.std.proofs.Common.{◌≡◌, ◌+◌, ◌-◌, ◌<◌, ◌≤◌, length, drop, ap, ◌∙◌, arith}
use Rattle.mesh_model.specs.Height.{active_at}
use Rattle.mesh_model.specs.Nested.{border_count, stitch_count}
use Rattle.stitches.proofs.Counted.{all_counted, next_counted, none_counted}
use Rattle.stitches.proofs.counts.stitch_count.Goals as goal

pub loop-level-init : goal.loop-level-init
loop-level-init c =
    let actives = c.args.actives.now in
    let many = c.levels-level-end.ensures.active.drawn.many.low in
    let some : 0 < length actives = omega arith in
    let all = all_counted actives some in
    record { few = omega arith; left = omega (arith, all) }

pub loop-level-preserved : goal.loop-level-preserved
unfolding active_at
loop-level-preserved c =
    let actives = c.args.actives.now in
    let level = c.loop-level.level in
    let low : level < length actives = omega (arith, c.loop-level-test.true, c.levels-level-end.ensures.value) in
    let more : level + 1 - 1 ≡ level = omega arith in
    let next = next_counted actives (active_at actives (level - 1)) level low in
    let here : c.border_stitches-count.result ≡ border_count (active_at actives (level - 1)) = c.border_stitches-count.ensures.value ∙ ap border_count c.at.ensures.value in
    let now = c.loop-level.invariant.left in
    let last : stitch_count (active_at actives (level + 1 - 1)) (drop (level + 1) actives) ≡ stitch_count (active_at actives level) (drop (level + 1) actives) = ap (λ n. stitch_count (active_at actives n) (drop (level + 1) actives)) more in
    record {
      few = omega (arith, c.loop-level.invariant.few, c.border_stitches-count.ensures.few, c.loop-level.auto.level);
      left = omega (arith, next, here, now, last);
    }

pub returns : goal.returns
returns c =
    let actives = c.args.actives.now in
    let level = c.loop-level.level in
    let high : length actives ≤ level = omega (arith, c.loop-level-test.false, c.levels-level-end.ensures.value) in
    let none = none_counted actives (active_at actives (level - 1)) level high in
    let now = c.loop-level.invariant.left in
    record { value = omega (arith, none, now) }
