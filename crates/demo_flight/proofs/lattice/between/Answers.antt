-- A mean of two heights is no higher than both.
use Rattle.demo_flight.proofs.lattice.between.Goals as goal
use Rattle.demo_flight.proofs.Draws.{mean_is_low}

pub returns-clause-small : goal.returns-clause-small
returns-clause-small c =
    λ most f s. mean_is_low c.args.part c.args.first c.args.second most c.requires.part f s
