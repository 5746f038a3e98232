use Rattle.std.proofs.Common.{◌≡◌, ◌≤◌, ◌*◌}
use Rattle.block_heights.specs.Rows.{coded_before}
use Rattle.block_heights.proofs.codes.count_of.Given as goal

abbrev pub invariant-loop-b : goal.invariant-loop-b
invariant-loop-b l = record {
  count : l.count ≡ coded_before l.region l.sides.columns l.b;
  few : l.count ≤ 8 * l.b;
}
