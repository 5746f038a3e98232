use Rattle.std.proofs.Common.{refl, arith}
use Rattle.store_reader.proofs.TableLemmas.{rows_more, kept_more}
use Rattle.store_reader.proofs.table.put_rows.Goals as goal

pub loop-b-preserved : goal.loop-b-preserved
loop-b-preserved c = record {
  rows = rows_more c.loop-b.b c.args.columns _ c.args.span c.args.heights.now c.loop-b.table c.put_row.new.table c.requires.columns refl c.put_row.ensures.row c.put_row.ensures.kept c.loop-b.invariant.rows;
  kept = kept_more c.loop-b.b c.args.columns _ c.args.span c.args.table.now c.loop-b.table c.put_row.new.table refl c.put_row.ensures.kept c.loop-b.invariant.kept;
}

pub returns-clause-kept : goal.returns-clause-kept
returns-clause-kept c = λ x outside. c.loop-b.invariant.kept x (λ a b l m. outside a b l (omega arith))
