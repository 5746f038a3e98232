-- One more row at each turn.
use Rattle.std.proofs.Common.{◌≡◌, ℕ, ◌<◌, ◌^◌, ℤ, pos, ◌+ℤ◌, ◌++◌, length, ap, sym, ◌∙◌, subst, arith}
use Rattle.std.proofs.lemmas.List.Elements.{All-same}
use Rattle.clip_regions.specs.FloorDivision.{floor_div}
use Rattle.plan_model.specs.Strips.{pieces}
use Rattle.plan_plain_pieces.proofs.Rows.{row, rows_more, pieces_none, pieces_are}
use Rattle.plan_plain_pieces.proofs.Parts.{IsNear, pieces_near, pieces_few}
use Rattle.plan_plain_pieces.proofs.strip_pieces.pieces.Goals as goal
use Rattle.plan_sound.proofs.Parts.{ordered}

pub returns-then-is_empty-clause-value : goal.returns-then-is_empty-clause-value
returns-then-is_empty-clause-value c =
    c.new-out.ensures.items ∙ sym (pieces_none c.args.region (sym c.is_empty.ensures.value ∙ c.if-is_empty.true))

pub returns-then-is_empty-clause-within : goal.returns-then-is_empty-clause-within
returns-then-is_empty-clause-within c =
    All-same (IsNear (2 ^ 24)) c.new-out.result.items (pieces c.args.region) (returns-then-is_empty-clause-value c) (pieces_near (2 ^ 24) c.args.region (omega arith) c.requires)

pub returns-then-is_empty-clause-few : goal.returns-then-is_empty-clause-few
returns-then-is_empty-clause-few c = λ short. omega (arith, c.new-out.ensures.len)

pub row_count-i-end-requires-clause-order : goal.row_count-i-end-requires-clause-order
row_count-i-end-requires-clause-order c = (ordered c.args.region (sym c.is_empty.ensures.value ∙ c.if-is_empty.false)).y

pub push_row-requires-clause-order : goal.push_row-requires-clause-order
push_row-requires-clause-order c = (ordered c.args.region (sym c.is_empty.ensures.value ∙ c.if-is_empty.false)).x

pub loop-i-preserved : goal.loop-i-preserved
loop-i-preserved c =
    rows_more (λ (j : ℕ). row c.args.region (floor_div c.args.region.y0 8 +ℤ pos j)) c.loop-i.i c.loop-i.out.items c.push_row.new.out.items c.loop-i.invariant (c.in_ok-push_row.ensures.value ∙ ap (λ (by : ℤ). c.loop-i.out.items ++ row c.args.region by) c.row_at-row.ensures.value)

pub returns-clause-value : goal.returns-clause-value
returns-clause-value c =
    let at_end : c.loop-i.i ≡ c.row_count-i-end.result = omega arith in
    c.loop-i.invariant ∙ pieces_are c.args.region c.loop-i.i (sym c.is_empty.ensures.value ∙ c.if-is_empty.false) (at_end ∙ c.row_count-i-end.ensures.value)

pub returns-clause-within : goal.returns-clause-within
returns-clause-within c =
    All-same (IsNear (2 ^ 24)) c.loop-i.out.items (pieces c.args.region) (returns-clause-value c) (pieces_near (2 ^ 24) c.args.region (omega arith) c.requires)

pub returns-clause-few : goal.returns-clause-few
returns-clause-few c = λ short.
    let some : length c.loop-i.out.items < 2 ^ 16 = subst (λ ps. length ps < 2 ^ 16) (sym (returns-clause-value c)) (pieces_few c.args.region short) in
    omega (arith, some, c.loop-i.out.ok.0)
