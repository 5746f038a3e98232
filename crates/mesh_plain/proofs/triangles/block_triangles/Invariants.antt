use Rattle.std.proofs.Common.{◌≡◌}
use Rattle.std.specs.List.{range_with_len, flat_map}
use Rattle.clip_regions.specs.Regions.{columns}
use Rattle.mesh_plain.specs.Strips.{strip_square}
use Rattle.mesh_plain.proofs.triangles.block_triangles.Given as goal

abbrev pub invariant-loop-v : goal.invariant-loop-v
invariant-loop-v l =
    l.triangles.items ≡ flat_map (λ v. flat_map (strip_square l.vertices l.level l.squares v) (range_with_len 0 (columns l.squares))) (range_with_len 0 l.v)
