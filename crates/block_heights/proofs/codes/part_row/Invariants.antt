use Rattle.std.proofs.Common.{◌≡◌, length, take}
use Rattle.block_heights.specs.Rows.{coded_columns, row_values, IsCodeRow, HasCodes}
use Rattle.block_heights.proofs.codes.part_row.Given as goal

abbrev pub invariant-loop-a : goal.invariant-loop-a
invariant-loop-a l = record {
  whole : length l.codes ≡ 8;
  used : l.used ≡ length (coded_columns l.region l.b l.a);
  codes : row_values l.region l.b l.a l.codes ≡ take l.used l.values;
  even : IsCodeRow l.region l.b l.codes;
  in_range : HasCodes l.codes;
}
