use Rattle.store_reader.specs.Tables.{AreRowsIn, IsKeptOutside}
use Rattle.store_reader.proofs.table.put_rows.Given as goal

abbrev pub invariant-loop-b : goal.invariant-loop-b
invariant-loop-b l = record {
  rows : AreRowsIn l.b l.columns l.span l.heights l.table;
  kept : IsKeptOutside l.b l.columns l.span l.initial.table l.table;
}
