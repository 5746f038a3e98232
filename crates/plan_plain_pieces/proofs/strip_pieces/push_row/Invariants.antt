use Rattle.std.proofs.Common.{◌≡◌, ℕ, pos, ◌+ℤ◌, ◌++◌, map}
use Rattle.std.specs.List.{range_with_len}
use Rattle.clip_regions.specs.FloorDivision.{floor_div}
use Rattle.plan_model.specs.Strips.{piece_in}
use Rattle.plan_plain_pieces.proofs.strip_pieces.push_row.Given as goal

abbrev pub invariant-loop-i : goal.invariant-loop-i
invariant-loop-i l =
    l.out.items ≡ l.initial.out.items ++ map (λ (n : ℕ). piece_in l.region (floor_div l.region.x0 8 +ℤ pos n) l.row.by) (range_with_len 0 l.i)
