use Rattle.std.proofs.Common.{pos}
use Rattle.block_heights.specs.Pieces.{IsPieceUpTo}
use Rattle.block_heights.proofs.pieces.fill_zeros.Given as goal

abbrev pub invariant-loop-height : goal.invariant-loop-height
invariant-loop-height l = IsPieceUpTo l.height-index (λ i j. pos 0) l.fn.cells l.out
