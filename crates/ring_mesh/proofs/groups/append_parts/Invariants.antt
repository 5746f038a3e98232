use Rattle.std.proofs.Common.{◌≡◌, ◌++◌, map, take}
use Rattle.ring_mesh.specs.Added.{moved_on}
use Rattle.ring_mesh.proofs.groups.append_parts.Given as goal

abbrev pub invariant-loop-part : goal.invariant-loop-part
invariant-loop-part l = l.parts.items ≡ l.fn.parts.items ++ map (moved_on l.more) (take l.part-index l.behind)
