use Rattle.std.proofs.Common.{ap, ◌∙◌, rules, length}
use Rattle.demo_flight.specs.Demo.{demo_terrain}
use Rattle.demo_flight.proofs.demo.demo_of.Goals as goal
use Rattle.demo_flight.proofs.Draws.{samples_are}

pub new-terrain-requires-clause-whole : goal.new-terrain-requires-clause-whole
new-terrain-requires-clause-whole c =
    let size = ap length c.in_ok-samples.ensures.samples ∙ samples_are c.args.seed 1442401 in
    search rules

pub returns-clause-terrain : goal.returns-clause-terrain
unfolding demo_terrain
returns-clause-terrain c = search rules
