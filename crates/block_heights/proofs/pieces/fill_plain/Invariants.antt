use Rattle.block_heights.specs.Pieces.{IsCellAt, IsPieceUpTo, within, plain_height}
use Rattle.block_heights.proofs.pieces.fill_plain.Given as goal

abbrev pub invariant-loop-k : goal.invariant-loop-k
invariant-loop-k l = record {
  here : IsCellAt l.cells l.k l.cell.i l.cell.j;
  heights : IsPieceUpTo l.k (within l.inside (plain_height l.bytes l.inside)) l.cells l.out;
}
