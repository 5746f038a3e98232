use Rattle.std.proofs.Common.{◌≡◌, ◌+◌, ◌*◌, ◌≤◌}
use Rattle.demo_flight.specs.Generator.{state_after}
use Rattle.demo_flight.specs.Demo.{column_after, lines_after, row_after}
use Rattle.demo_flight.proofs.flight.draw_lines.Given as goal

abbrev pub invariant-loop-moves : goal.invariant-loop-moves
invariant-loop-moves l =
    l.lines.items ≡ lines_after l.seed l.moves
    × l.generator.state ≡ state_after l.seed (1443077 + 2 * l.moves)
    × l.place.x ≡ column_after l.seed l.moves
    × l.place.y ≡ row_after l.seed l.moves
    × l.place.x ≤ 1200
    × l.place.y ≤ 1200
