use Rattle.std.proofs.Common.{arith}
use Rattle.std.proofs.lemmas.Int.{ints}
use Rattle.plan_model.specs.Blocks.{tiles_per_side}
use Rattle.plan_plain_pieces.proofs.blocks.tiles_per_side.Goals as goal

pub returns-clause-value : goal.returns-clause-value
unfolding tiles_per_side
returns-clause-value c = omega (arith, ints, c.torus_side.ensures.value)
