use Rattle.std.proofs.Common.{◌≡◌, ◌-◌, ◌++◌, ◌^◌, length, All}
use Rattle.clip_regions.specs.Regions.{IsWithin}
use Rattle.mesh_lists.specs.Lines.{LeavesBehind, whole_lines}
use Rattle.mesh_lists.specs.Lists.{level_regions}
use Rattle.mesh_lists.proofs.head.read_levels.Given as goal

abbrev pub invariant-loop-level : goal.invariant-loop-level
invariant-loop-level l = record {
  same : level_regions 12 0 (whole_lines l.fn.text) ≡ l.regions.items ++ level_regions (12 - l.level) l.level (whole_lines l.text);
  counted : length l.regions.items ≡ l.level;
  left : LeavesBehind l.level l.fn.text l.text;
  within : All (IsWithin (2 ^ 24)) l.regions.items;
}
