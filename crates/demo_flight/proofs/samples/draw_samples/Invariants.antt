use Rattle.std.proofs.Common.{◌≡◌, ◌+◌}
use Rattle.demo_flight.specs.Generator.{state_after}
use Rattle.demo_flight.specs.Demo.{first_samples}
use Rattle.demo_flight.proofs.samples.draw_samples.Given as goal

abbrev pub invariant-loop-place : goal.invariant-loop-place
invariant-loop-place l =
    l.samples.items ≡ first_samples l.seed l.place × l.generator.state ≡ state_after l.seed (676 + l.place)
