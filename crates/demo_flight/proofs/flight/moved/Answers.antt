use Rattle.std.proofs.Common.{◌%◌, ap, ◌∙◌, arith}
use Rattle.demo_flight.specs.Generator.{draw, high_bits, next_state}
use Rattle.demo_flight.specs.Demo.{moved}
use Rattle.demo_flight.proofs.flight.moved.Goals as goal

pub returns-clause-value : goal.returns-clause-value
unfolding moved draw
returns-clause-value c =
    let value = c.below.ensures.value ∙ ap (λ s. high_bits (next_state s) % 65) c.requires.state in
    omega arith
