use Rattle.std.proofs.Common.{◌≡◌, ◌+◌, ◌++◌, ℕ, List, drop, flat_map, length}
use Rattle.mesh_model.specs.declared.shapes.Part.{Part}
use Rattle.mesh_model.specs.Mesh.{parts_from}
use Rattle.mesh_plain.proofs.meshes.listed_parts.Given as goal

pub record HasListed (first left all : ℕ) (whole so_far rest : List Part) : Type 0 where
  pub placed : first + left ≡ all
  pub listed : so_far ++ rest ≡ whole

abbrev pub invariant-loop-part : goal.invariant-loop-part
invariant-loop-part l =
    HasListed l.first (length (flat_map (λ part. part.triangles) (drop l.part-index l.parts))) (length (flat_map (λ part. part.triangles) l.parts)) (parts_from l.vertices 0 l.parts) l.listed.items (parts_from l.vertices l.first (drop l.part-index l.parts))
