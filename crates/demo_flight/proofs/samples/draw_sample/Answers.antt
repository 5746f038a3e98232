use Rattle.std.proofs.Common.{◌/◌, ◌%◌, ap, ◌∙◌, rules}
use Rattle.demo_flight.specs.Generator.{draw, high_bits, next_state}
use Rattle.demo_flight.specs.Demo.{sample}
use Rattle.demo_flight.proofs.samples.draw_sample.Goals as goal

pub returns-clause-value : goal.returns-clause-value
unfolding sample draw
returns-clause-value c =
    let rough = c.below-roughness.ensures.value ∙ ap (λ s. high_bits (next_state s) % 7) c.requires.state in
    let smooth = ap (λ h. h / 2304) c.smooth-height.ensures.value in
    search rules
