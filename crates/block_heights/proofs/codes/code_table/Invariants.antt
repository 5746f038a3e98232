use Rattle.std.proofs.Common.{◌≡◌, ℕ, [], get_or, length, take}
use Rattle.block_heights.specs.Rows.{coded_before, table_values, IsCodeRow, HasCodes}
use Rattle.block_heights.proofs.codes.code_table.Given as goal

abbrev pub invariant-loop-b : goal.invariant-loop-b
invariant-loop-b l = record {
  whole : length l.table ≡ 8;
  used : l.at ≡ coded_before l.region l.sides.columns l.b;
  codes : table_values l.region l.sides.columns l.b l.table ≡ take l.at l.values;
  even : (b : ℕ) → IsCodeRow l.region b (get_or l.table b []);
  in_range : (b : ℕ) → HasCodes (get_or l.table b []);
}
