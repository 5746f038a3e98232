-- One more piece at each turn.
use Rattle.std.proofs.Common.{◌≡◌, ℕ, ℤ, pos, ◌+ℤ◌, List, [], ◌∷◌, ◌++◌, ap, ◌∙◌, arith}
use Rattle.clip_regions.specs.FloorDivision.{floor_div}
use Rattle.plan_model.specs.Strips.{piece_in}
use Rattle.plan_model.specs.declared.tiles.Piece.{Piece}
use Rattle.plan_plain_pieces.proofs.Rows.{row_more, row_of}
use Rattle.plan_plain_pieces.proofs.strip_pieces.push_row.Goals as goal

pub loop-i-preserved : goal.loop-i-preserved
loop-i-preserved c =
    row_more (λ (n : ℕ). piece_in c.args.region (floor_div c.args.region.x0 8 +ℤ pos n) c.args.row.by) c.loop-i.i c.args.out.now.items c.loop-i.out.items c.push.new.self.items c.loop-i.invariant (c.in_ok-push.ensures.items ∙ ap (λ (p : Piece). c.loop-i.out.items ++ p ∷ []) c.piece_at-piece.ensures.value)

pub returns : goal.returns
returns c =
    let at_end : c.loop-i.i ≡ c.column_count-i-end.result = omega arith in
    record { value = c.loop-i.invariant ∙ ap (λ (xs : List Piece). c.args.out.now.items ++ xs) (row_of (λ (bx : ℤ). piece_in c.args.region bx c.args.row.by) c.args.region c.loop-i.i (at_end ∙ c.column_count-i-end.ensures.value)) }
