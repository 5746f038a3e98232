use Rattle.std.proofs.Common.{◌≡◌, ℕ, map, flat_map}
use Rattle.std.specs.List.{range_with_len}
use Rattle.plan_plain_pieces.proofs.Shapes.{tile}
use Rattle.plan_plain_pieces.proofs.torus_tiles.tiles.Given as goal

abbrev pub invariant-loop-ty : goal.invariant-loop-ty
invariant-loop-ty l =
    l.out.items ≡ flat_map (λ (ty : ℕ). map (λ (tx : ℕ). tile tx ty) (range_with_len 0 l.side)) (range_with_len 0 l.ty)
