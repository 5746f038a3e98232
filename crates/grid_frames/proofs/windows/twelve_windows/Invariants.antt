use Rattle.std.proofs.Common.{◌≡◌, ◌++◌, ◌-◌, replicate}
use Rattle.clip_regions.specs.Regions.{empty_region}
use Rattle.grid_frames.specs.Whole.{whole_windows}
use Rattle.grid_frames.proofs.windows.twelve_windows.Given as goal

abbrev pub invariant-loop-level : goal.invariant-loop-level
invariant-loop-level l = l.windows ≡ whole_windows l.k l.level l.viewer.x l.viewer.y ++ replicate (12 - l.level) empty_region
