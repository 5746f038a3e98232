use Rattle.std.proofs.Common.{◌≡◌, ◌*◌, ◌^◌, ◌≤◌}
use Rattle.terrain_lines.specs.Extremes.{all_blocks}
use Rattle.terrain_lines.proofs.extremes.all_blocks.Given as goal

abbrev pub invariant-loop-level : goal.invariant-loop-level
invariant-loop-level l = record {
  value : l.blocks ≡ all_blocks l.width l.height l.level;
  few : l.blocks ≤ l.level * 2 ^ 26;
}
