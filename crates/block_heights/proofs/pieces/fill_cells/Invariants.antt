use Rattle.four_point.specs.Patches.{patch_height}
use Rattle.block_heights.specs.Rows.{table_code}
use Rattle.block_heights.specs.Pieces.{IsCellAt, IsPieceUpTo, AreNearUpTo, within, coded_height}
use Rattle.block_heights.proofs.pieces.fill_cells.Given as goal

abbrev pub invariant-loop-k : goal.invariant-loop-k
invariant-loop-k l = record {
  here : IsCellAt l.cells l.k l.cell.i l.cell.j;
  heights : IsPieceUpTo l.k (within l.codes.inside (coded_height (patch_height l.codes.patch.now) l.codes.step (table_code l.codes.inside l.codes.table.now))) l.cells l.out;
  near : AreNearUpTo l.k (patch_height l.codes.patch.now) l.codes.step (table_code l.codes.inside l.codes.table.now) l.codes.inside l.cells;
}
