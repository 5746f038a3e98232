-- The parts of the demo as lists.
use Rattle.std.specs.Prelude.{ℕ, List, map}
use Rattle.std.specs.List.{range_with_len}
use Rattle.demo_flight.specs.Generator.{draw}

-- the number that lattice point number n, counted row by row, has above −500 metres
unfoldable pub lattice_draw : ℕ → ℕ → ℕ
lattice_draw seed number = draw seed number 2001

-- the heights of the lattice's points above −500 metres, row by row
unfoldable pub lattice_heights : ℕ → List ℕ
lattice_heights seed = map (lattice_draw seed) (range_with_len 0 676)
