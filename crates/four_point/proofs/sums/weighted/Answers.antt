use Rattle.std.proofs.Common.{arith}
use Rattle.std.proofs.lemmas.Int.{ints}
use Rattle.four_point.specs.Prediction.{weighted}
use Rattle.four_point.proofs.sums.weighted.Goals as goal

pub returns-clause-value : goal.returns-clause-value
unfolding weighted
returns-clause-value c = omega (arith, ints)
