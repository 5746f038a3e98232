use Rattle.std.proofs.Common.{◌≡◌, ℕ, ◌++◌, map}
use Rattle.std.specs.List.{range_with_len}
use Rattle.plan_plain_pieces.proofs.Shapes.{tile}
use Rattle.plan_plain_pieces.proofs.torus_tiles.push_row.Given as goal

abbrev pub invariant-loop-tx : goal.invariant-loop-tx
invariant-loop-tx l = l.out.items ≡ l.initial.out.items ++ map (λ (tx : ℕ). tile tx l.ty) (range_with_len 0 l.tx)
