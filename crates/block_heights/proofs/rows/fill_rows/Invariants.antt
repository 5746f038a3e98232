use Rattle.std.proofs.Common.{◌≡◌, ◌≤◌, ◌*◌}
use Rattle.four_point.specs.Patches.{patch_height}
use Rattle.block_heights.specs.Rows.{table_code}
use Rattle.block_heights.specs.Pieces.{IsPieceUpTo, AreNearUpTo, within, coded_height}
use Rattle.block_heights.proofs.rows.fill_rows.Given as goal

abbrev pub invariant-loop-b : goal.invariant-loop-b
invariant-loop-b l = record {
  start : l.start ≡ l.b * l.sides.columns;
  few : l.start ≤ 8 * l.b;
  heights : IsPieceUpTo l.start (within l.codes.inside (coded_height (patch_height l.codes.patch.now) l.codes.step (table_code l.codes.inside l.codes.table.now))) l.codes.inside l.out;
  near : AreNearUpTo l.start (patch_height l.codes.patch.now) l.codes.step (table_code l.codes.inside l.codes.table.now) l.codes.inside l.codes.inside;
}
