-- One sample more is the next place's.
use Rattle.std.proofs.Common.{◌≡◌, ◌+◌, arith, rules, sym, ap, ◌∙◌}
use Rattle.demo_flight.specs.Generator.{next_state, state_after}
use Rattle.demo_flight.specs.Demo.{first_samples}
use Rattle.demo_flight.proofs.samples.draw_samples.Goals as goal
use Rattle.demo_flight.proofs.Draws.{one_draw, one_sample, no_sample}

pub loop-place-init : goal.loop-place-init
loop-place-init c = (search (rules, no_sample), c.requires.state)

pub loop-place-preserved : goal.loop-place-preserved
loop-place-preserved c =
    let place = c.loop-place.place in
    let one : 676 + place + 1 ≡ 676 + (place + 1) = omega arith in (
      one_sample c.args.seed place c.loop-place.samples.items c.push.new.self.items c.draw_sample.result c.loop-place.invariant.0 (search rules) c.draw_sample.ensures.value,
      c.draw_sample.ensures.next ∙ ap next_state c.loop-place.invariant.1 ∙ sym (one_draw c.args.seed (676 + place)) ∙ ap (state_after c.args.seed) one,
    )

pub returns-clause-samples : goal.returns-clause-samples
returns-clause-samples c =
    let e : c.loop-place.place ≡ 1442401 = omega arith in
    c.loop-place.invariant.0 ∙ ap (first_samples c.args.seed) e
