use Rattle.std.proofs.Common.{◌≡◌, ◌≤◌, length, take}
use Rattle.mesh_model.specs.Seen.{flagged_parts, triangles_of_parts}
use Rattle.obj_frames.proofs.views.kept_parts.Given as goal

abbrev pub invariant-loop-place : goal.invariant-loop-place
invariant-loop-place l =
    record {
      few : l.kept.parts ≤ l.place;
      parts : l.kept.parts ≡ length (flagged_parts (take l.place l.keep) (take l.place l.mesh.parts));
      triangles : l.kept.triangles.items ≡ triangles_of_parts l.mesh.triangles (flagged_parts (take l.place l.keep) (take l.place l.mesh.parts));
    }
