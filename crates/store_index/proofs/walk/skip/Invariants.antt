use Rattle.std.proofs.Common.{◌≡◌}
use Rattle.store_index.specs.Places.{behind}
use Rattle.store_index.proofs.walk.skip.Given as goal

abbrev pub invariant-loop-n : goal.invariant-loop-n
invariant-loop-n l = l.at ≡ behind l.bytes l.first l._n
