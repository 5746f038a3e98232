-- One more row of tiles at each turn.
use Rattle.std.proofs.Common.{◌≡◌, ℕ, map, flat_map, ap, ◌∙◌, arith}
use Rattle.std.specs.List.{range_with_len}
use Rattle.plan_model.specs.Tiles.{tiles}
use Rattle.plan_plain_pieces.proofs.Shapes.{tile}
use Rattle.plan_plain_pieces.proofs.Rows.{rows_more}
use Rattle.plan_plain_pieces.proofs.torus_tiles.tiles.Goals as goal

pub loop-ty-preserved : goal.loop-ty-preserved
loop-ty-preserved c =
    rows_more (λ (ty : ℕ). map (λ (tx : ℕ). tile tx ty) (range_with_len 0 c.tiles_per_side-side.result)) c.loop-ty.ty c.loop-ty.out.items c.push_row.new.out.items c.loop-ty.invariant c.in_ok-push_row.ensures.value

pub returns : goal.returns
unfolding tiles
returns c =
    let at_end : c.loop-ty.ty ≡ c.tiles_per_side-side.result = omega arith in
    record { value = c.loop-ty.invariant ∙ ap (λ (n : ℕ). flat_map (λ (ty : ℕ). map (λ (tx : ℕ). tile tx ty) (range_with_len 0 c.tiles_per_side-side.result)) (range_with_len 0 n)) at_end ∙ ap (λ (n : ℕ). flat_map (λ (ty : ℕ). map (λ (tx : ℕ). tile tx ty) (range_with_len 0 n)) (range_with_len 0 n)) c.tiles_per_side-side.ensures.value }
