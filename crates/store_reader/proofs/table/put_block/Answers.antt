use Rattle.store_reader.proofs.TableLemmas.{rows_behind, kept_behind}
use Rattle.store_reader.proofs.table.put_block.Goals as goal

pub returns-clause-rows : goal.returns-clause-rows
returns-clause-rows c = rows_behind c.args.columns c.args.top c.args.span c.args.heights.now c.put_rows.new.table c.requires.top c.put_rows.ensures.rows

pub returns-clause-kept : goal.returns-clause-kept
returns-clause-kept c = kept_behind c.args.columns c.args.top c.args.span c.args.table.now c.put_rows.new.table c.requires.top c.put_rows.ensures.kept
