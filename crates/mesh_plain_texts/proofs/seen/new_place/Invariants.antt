use Rattle.std.proofs.Common.{◌≡◌, ◌≤◌}
use Rattle.mesh_model.specs.Seen.{new_place}
use Rattle.mesh_plain_texts.proofs.seen.new_place.Given as goal

abbrev pub invariant-loop-earlier : goal.invariant-loop-earlier
invariant-loop-earlier l = record { counted : l.named ≡ new_place l.triangles l.earlier; few : l.named ≤ l.earlier }
