use Rattle.std.proofs.Common.{◌≡◌, ◌+◌, ◌-◌, ◌*◌, ◌^◌, ◌≤◌, drop}
use Rattle.mesh_model.specs.Height.{active_at}
use Rattle.mesh_model.specs.Nested.{stitch_count, all_stitch_count}
use Rattle.stitches.proofs.counts.stitch_count.Given as goal

abbrev pub invariant-loop-level : goal.invariant-loop-level
invariant-loop-level l = record {
  few : l.count ≤ (l.level - 1) * 2 ^ 26;
  left : l.count + stitch_count (active_at l.actives (l.level - 1)) (drop l.level l.actives) ≡ all_stitch_count l.actives;
}
