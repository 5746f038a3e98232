-- One lattice point more is the next draw.
use Rattle.std.proofs.Common.{◌≡◌, ◌%◌, arith, rules, sym, ap, ◌∙◌, map}
use Rattle.std.specs.List.{range_with_len}
use Rattle.demo_flight.specs.Generator.{next_state, high_bits, draw}
use Rattle.demo_flight.specs.Parts.{lattice_draw, lattice_heights}
use Rattle.demo_flight.proofs.lattice.draw_lattice.Goals as goal
use Rattle.demo_flight.proofs.Draws.{first_state, one_draw, one_more}

pub loop-number-init : goal.loop-number-init
loop-number-init c = (search rules, c.requires ∙ sym (first_state c.args.seed))

pub loop-number-preserved : goal.loop-number-preserved
unfolding lattice_draw draw
loop-number-preserved c =
    let state = c.loop-number.invariant.1 in
    let value = c.below.ensures.value ∙ ap (λ s. high_bits (next_state s) % 2001) state in (
      one_more (lattice_draw c.args.seed) c.loop-number.number c.loop-number.heights.items c.push.new.self.items c.below.result c.loop-number.invariant.0 (search rules) value,
      c.below.ensures.state ∙ ap next_state state ∙ sym (one_draw c.args.seed c.loop-number.number),
    )

pub returns-clause-heights : goal.returns-clause-heights
unfolding lattice_heights
returns-clause-heights c =
    let e : c.loop-number.number ≡ 676 = omega arith in
    c.loop-number.invariant.0 ∙ ap (λ n. map (lattice_draw c.args.seed) (range_with_len 0 n)) e
