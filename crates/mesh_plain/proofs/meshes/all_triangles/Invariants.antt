use Rattle.std.proofs.Common.{◌≡◌, ◌++◌, drop, flat_map}
use Rattle.mesh_plain.proofs.meshes.all_triangles.Given as goal

abbrev pub invariant-loop-part : goal.invariant-loop-part
invariant-loop-part l =
    l.triangles.items ++ flat_map (λ part. part.triangles) (drop l.part-index l.parts) ≡ flat_map (λ part. part.triangles) l.parts
