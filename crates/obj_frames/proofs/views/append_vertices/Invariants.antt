use Rattle.std.proofs.Common.{◌≡◌, ℕ, ◌<◌, ◌≤◌, ◌++◌, length, get_or}
use Rattle.mesh_model.specs.Seen.{named_places, new_place}
use Rattle.obj_frames.specs.Renumbering.{mark_at, vertex_lines}
use Rattle.obj_frames.proofs.views.append_vertices.Given as goal

abbrev pub invariant-loop-place : goal.invariant-loop-place
invariant-loop-place l =
    record {
      few : l.taken ≤ l.place;
      taken : l.taken ≡ new_place l.triangles l.place;
      whole : length l.table.items ≡ length l.vertices;
      before : (p : ℕ) → p < l.place → get_or l.table.items p 0 ≡ new_place l.triangles p;
      after : (p : ℕ) → l.place ≤ p → p < length l.vertices → get_or l.table.items p 0 ≡ mark_at l.triangles p;
      text : l.text.items ≡ l.fn.text.items ++ vertex_lines l.vertices (named_places l.triangles l.place);
    }
