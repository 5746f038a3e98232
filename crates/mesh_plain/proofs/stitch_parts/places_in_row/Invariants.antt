use Rattle.std.proofs.Common.{◌≡◌, map, pos, ◌+ℤ◌}
use Rattle.std.specs.List.{range_with_len}
use Rattle.mesh_model.specs.Parts.{corner_place}
use Rattle.mesh_plain.proofs.stitch_parts.places_in_row.Given as goal

abbrev pub invariant-loop-u : goal.invariant-loop-u
invariant-loop-u l =
    l.places.items ≡ map (λ u. corner_place l.vertices l.level (l.active.x0 +ℤ pos u) (l.active.y0 +ℤ pos l.v)) (range_with_len 0 l.u)
