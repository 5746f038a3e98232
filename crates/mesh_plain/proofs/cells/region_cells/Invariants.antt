use Rattle.std.proofs.Common.{◌≡◌, map}
use Rattle.std.specs.List.{range_with_len, flat_map}
use Rattle.clip_regions.specs.Regions.{columns}
use Rattle.mesh_plain.specs.Cells.{cell_in}
use Rattle.mesh_plain.proofs.cells.region_cells.Given as goal

abbrev pub invariant-loop-v : goal.invariant-loop-v
invariant-loop-v l =
    l.cells.items ≡ flat_map (λ v. map (cell_in l.level l.region v) (range_with_len 0 (columns l.region))) (range_with_len 0 l.v)
