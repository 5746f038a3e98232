use Rattle.std.proofs.Common.{◌≡◌, ◌++◌, drop, string_bytes}
use Rattle.mesh_model.specs.Text.{level_lines}
use Rattle.mesh_plain_texts.proofs.texts.write_levels.Given as goal

abbrev pub invariant-loop-level : goal.invariant-loop-level
invariant-loop-level l = string_bytes l.text ++ level_lines l.level (drop l.level l.actives) ≡ string_bytes l.fn.text ++ level_lines 0 l.actives
