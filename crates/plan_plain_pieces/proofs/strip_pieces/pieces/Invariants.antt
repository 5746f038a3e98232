use Rattle.std.proofs.Common.{◌≡◌, ℕ, pos, ◌+ℤ◌, flat_map}
use Rattle.std.specs.List.{range_with_len}
use Rattle.clip_regions.specs.FloorDivision.{floor_div}
use Rattle.plan_plain_pieces.proofs.Rows.{row}
use Rattle.plan_plain_pieces.proofs.strip_pieces.pieces.Given as goal

abbrev pub invariant-loop-i : goal.invariant-loop-i
invariant-loop-i l =
    l.out.items ≡ flat_map (λ (j : ℕ). row l.region (floor_div l.region.y0 8 +ℤ pos j)) (range_with_len 0 l.i)
