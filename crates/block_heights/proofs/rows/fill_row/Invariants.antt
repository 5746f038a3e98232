use Rattle.std.proofs.Common.{◌+◌}
use Rattle.four_point.specs.Patches.{patch_height}
use Rattle.block_heights.specs.Rows.{table_code}
use Rattle.block_heights.specs.Pieces.{IsPieceUpTo, AreNearUpTo, within, coded_height}
use Rattle.block_heights.proofs.rows.fill_row.Given as goal

abbrev pub invariant-loop-a : goal.invariant-loop-a
invariant-loop-a l = record {
  heights : IsPieceUpTo (l.start + l.a) (within l.codes.inside (coded_height (patch_height l.codes.patch.now) l.codes.step (table_code l.codes.inside l.codes.table.now))) l.codes.inside l.out;
  near : AreNearUpTo (l.start + l.a) (patch_height l.codes.patch.now) l.codes.step (table_code l.codes.inside l.codes.table.now) l.codes.inside l.codes.inside;
}
