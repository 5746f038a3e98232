use Rattle.std.proofs.Common.{ℕ, ◌≤◌, length, All}
use Rattle.std.specs.List.Sorted.{IsNonDecreasing}
use Rattle.mesh_check.specs.Keys.{IsEdgeOf}
use Rattle.mesh_check.proofs.Fronts.{Judged}
use Rattle.mesh_check.proofs.runs.first_open.Given as goal

abbrev pub invariant-loop-rest : goal.invariant-loop-rest
invariant-loop-rest l = record {
  few : length l.rest ≤ length l.keys;
  sorted : IsNonDecreasing l.rest;
  ends : All (IsEdgeOf (length l.places.vertices.now)) l.rest;
  judged : (next : ℕ) × Judged l.places.border l.places.vertices.now l.keys l.rest next;
}

abbrev pub decreases-loop-rest : goal.decreases-loop-rest
decreases-loop-rest l = length l.rest
