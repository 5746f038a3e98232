-- By cases on whether anything is filled.
use Rattle.std.proofs.Common.{sym, ◌∙◌}
use Rattle.plan_plain_pieces.proofs.Cases.{strips_none, strips_around}
use Rattle.plan_plain_pieces.proofs.window_strips.strips.Goals as goal

pub returns-then-is_empty : goal.returns-then-is_empty
returns-then-is_empty c = record {
  value = rw (strips_none c.args.filled c.args.window (sym c.is_empty.ensures.value ∙ c.if-is_empty.true)) c.from_slice.ensures.items;
}

pub returns : goal.returns
returns c = record {
  value = rw (strips_around c.args.filled c.args.window (sym c.is_empty.ensures.value ∙ c.if-is_empty.false), ← c.left_of.ensures, ← c.right_of.ensures, ← c.above.ensures, ← c.below.ensures) c.with_cells.ensures;
}
