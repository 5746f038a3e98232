use Rattle.std.proofs.Common.{◌≡◌, ℕ, ◌+◌, drop}
use Rattle.mesh_model.specs.Vertices.{place_of}
use Rattle.mesh_plain_heights.proofs.places.place_of.Given as goal

pub record HasPassed (place index whole rest : ℕ) : Type 0 where
  pub counted : place ≡ index
  pub found : rest + index ≡ whole

abbrev pub invariant-loop-vertex : goal.invariant-loop-vertex
invariant-loop-vertex l =
    HasPassed l.place l.vertex-index (place_of l.vertices l.at.x l.at.z) (place_of (drop l.vertex-index l.vertices) l.at.x l.at.z)
