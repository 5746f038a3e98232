use Rattle.std.proofs.Common.{◌≡◌, map}
use Rattle.std.specs.List.{range_with_len}
use Rattle.demo_flight.specs.Generator.{state_after}
use Rattle.demo_flight.specs.Parts.{lattice_draw}
use Rattle.demo_flight.proofs.lattice.draw_lattice.Given as goal

abbrev pub invariant-loop-number : goal.invariant-loop-number
invariant-loop-number l =
    l.heights.items ≡ map (lattice_draw l.seed) (range_with_len 0 l.number) × l.generator.state ≡ state_after l.seed l.number
