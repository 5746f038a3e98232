use Rattle.clip_book.proofs.WholeRows.{row_read}
use Rattle.clip_book.proofs.tiles.seen_row.Goals as goal

pub whole_row-requires-clause-inside : goal.whole_row-requires-clause-inside
whole_row-requires-clause-inside c =
    row_read c.args.region c.args.i0 c.args.j c.contains.result c.contains-then-contains.result c.requires.column c.contains.ensures c.contains-then-contains.ensures c.if-contains.true c.if-contains-2.true
