use Rattle.std.proofs.Common.{◌≡◌, ◌++◌, take}
use Rattle.mesh_model.specs.Text.{level_lines}
use Rattle.obj_frames.proofs.text.append_levels.Given as goal

abbrev pub invariant-loop-level : goal.invariant-loop-level
invariant-loop-level l = l.text.items ≡ l.fn.text.items ++ level_lines 0 (take l.level l.actives)
