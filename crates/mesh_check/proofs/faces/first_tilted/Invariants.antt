use Rattle.std.proofs.Common.{◌≡◌, ℕ, ◌<◌, false, [], get_or}
use Rattle.mesh_check.specs.Verdict.{is_tilted_face}
use Rattle.mesh_check.proofs.faces.first_tilted.Given as goal

abbrev pub invariant-loop-face : goal.invariant-loop-face
invariant-loop-face l = (k : ℕ) → k < l.face → is_tilted_face l.vertices (get_or l.triangles k []) ≡ false
