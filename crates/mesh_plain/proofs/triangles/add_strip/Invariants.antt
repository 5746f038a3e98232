use Rattle.std.proofs.Common.{◌≡◌, ◌++◌}
use Rattle.std.specs.List.{range_with_len, flat_map}
use Rattle.mesh_plain.specs.Strips.{strip_square}
use Rattle.mesh_plain.proofs.triangles.add_strip.Given as goal

abbrev pub invariant-loop-u : goal.invariant-loop-u
invariant-loop-u l =
    l.triangles.items ≡ l.fn.triangles.items ++ flat_map (strip_square l.vertices l.level l.squares l.v) (range_with_len 0 l.u)
