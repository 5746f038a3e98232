use Rattle.std.proofs.Common.{◌≡◌, take}
use Rattle.mesh_model.specs.Seen.{triangles_of_parts}
use Rattle.mesh_plain_texts.proofs.seen.triangles_of_parts.Given as goal

abbrev pub invariant-loop-part : goal.invariant-loop-part
invariant-loop-part l = l.found.items ≡ triangles_of_parts l.triangles (take l.part-index l.parts)
