use Rattle.std.proofs.Common.{◌≡◌, map, pos, ◌+ℤ◌}
use Rattle.std.specs.List.{range_with_len}
use Rattle.mesh_model.specs.Parts.{corner_place}
use Rattle.mesh_plain.proofs.stitch_parts.places_in_column.Given as goal

abbrev pub invariant-loop-v : goal.invariant-loop-v
invariant-loop-v l =
    l.places.items ≡ map (λ v. corner_place l.vertices l.level (l.active.x0 +ℤ pos l.u) (l.active.y0 +ℤ pos v)) (range_with_len 0 l.v)
