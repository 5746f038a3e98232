-- One more tile at each turn.
use Rattle.std.proofs.Common.{◌≡◌, ℕ, ◌++◌, map, ap, ◌∙◌, arith}
use Rattle.std.specs.List.{range_with_len}
use Rattle.plan_plain_pieces.proofs.Shapes.{tile}
use Rattle.plan_plain_pieces.proofs.Rows.{row_more}
use Rattle.plan_plain_pieces.proofs.torus_tiles.push_row.Goals as goal

pub loop-tx-preserved : goal.loop-tx-preserved
loop-tx-preserved c =
    row_more (λ (tx : ℕ). tile tx c.args.ty) c.loop-tx.tx c.args.out.now.items c.loop-tx.out.items c.push.new.self.items c.loop-tx.invariant c.in_ok-push.ensures.items

pub returns : goal.returns
returns c =
    let at_end : c.loop-tx.tx ≡ c.args.side = omega arith in
    record { value = c.loop-tx.invariant ∙ ap (λ (n : ℕ). c.args.out.now.items ++ map (λ (tx : ℕ). tile tx c.args.ty) (range_with_len 0 n)) at_end }
