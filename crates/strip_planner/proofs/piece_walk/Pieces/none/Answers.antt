use Rattle.std.proofs.Common.{pos, refl}
use Rattle.strip_planner.proofs.Walks.{left, left_none}
use Rattle.strip_planner.proofs.piece_walk.Pieces.none.Goals as goal

pub returns : goal.returns
unfolding left
returns c = left_none c.empty.result (pos 0) 1 (pos 0) (pos 0) 0 0 refl refl
