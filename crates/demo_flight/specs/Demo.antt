-- The terrain and the flight of the demo, as functions of its seed.
use Rattle.std.specs.Prelude.{ℕ, zero, suc, ◌+◌, ◌-◌, ◌*◌, ◌/◌, ◌%◌, min, ℤ, pos, ◌-ℤ◌, List, [], ◌∷◌, ◌++◌, map, flat_map}
use Rattle.std.specs.List.{range_with_len}
use Rattle.terrain_model.specs.Terrain.{Terrain}
use Rattle.plan_model.specs.declared.events.FlyLine.{FlyLine}
use Rattle.plan_model.specs.declared.events.FlyLine.TheVariants.{Move, Frame, Settle}
use Rattle.demo_flight.specs.Generator.{draw}

-- the height of a lattice point above −500 metres; the lattice has 26 × 26 points, drawn row by row
unfoldable pub lattice_height : ℕ → ℕ → ℕ → ℕ
lattice_height seed column row = draw seed (26 * row + column) 2001

-- the lattice's next column or row, and of the last one itself
unfoldable pub next_line : ℕ → ℕ
next_line line = min (line + 1) 25

-- 48 times the height at so many forty-eighths of the way from one height to another
unfoldable pub between : ℕ → ℕ → ℕ → ℕ
between part first second = (48 - part) * first + part * second

-- 48 · 48 times the height above −500 metres that the lattice has at a sample: lattice points are 48 samples apart
unfoldable pub smooth : ℕ → ℕ → ℕ → ℕ
smooth seed x y =
    let column = x / 48 in
    let row = y / 48 in
    between (y % 48)
    (between (x % 48) (lattice_height seed column row) (lattice_height seed (next_line column) row))
    (between (x % 48) (lattice_height seed column (next_line row))
    (lattice_height seed (next_line column) (next_line row)))

-- the height of a sample, in metres: the lattice's, rounded down, and a roughness of −3 to 3; samples are counted row
-- by row
unfoldable pub sample : ℕ → ℕ → ℤ
sample seed place =
    pos (smooth seed (place % 1201) (place / 1201) / 2304 + draw seed (676 + place) 7) -ℤ pos 503

-- the first so many samples, row by row
unfoldable pub first_samples : ℕ → ℕ → List ℤ
first_samples seed count = map (sample seed) (range_with_len 0 count)

-- the terrain: 1201 × 1201 samples
unfoldable pub demo_terrain : ℕ → Terrain
demo_terrain seed = record { width = 1201; height = 1201; table = first_samples seed 1442401 }

-- a coordinate of the viewer after one more move, of −32 to 32 samples, kept from 0 to 1200
unfoldable pub moved : ℕ → ℕ → ℕ → ℕ
moved seed number at = min 1200 (at + draw seed (1443077 + number) 65 - 32)

-- the viewer's column and row after so many moves; each move draws the column first
unfoldable pub column_after : ℕ → ℕ → ℕ
column_after seed zero = 600
column_after seed (suc moves) = moved seed (2 * moves) (column_after seed moves)

unfoldable pub row_after : ℕ → ℕ → ℕ
row_after seed zero = 600
row_after seed (suc moves) = moved seed (2 * moves + 1) (row_after seed moves)

-- a move with its frame, drawn before the levels settle
unfoldable pub leg_to : ℕ → ℕ → List FlyLine
leg_to x y = Move (pos x) (pos y) 0 ∷ Frame ∷ Settle ∷ []

-- the lines of the move of this number, counted from 0
unfoldable pub leg : ℕ → ℕ → List FlyLine
leg seed number = leg_to (column_after seed (number + 1)) (row_after seed (number + 1))

-- the lines of so many moves, after a settled frame over the middle
unfoldable pub lines_after : ℕ → ℕ → List FlyLine
lines_after seed moves =
    (Move (pos 600) (pos 600) 0 ∷ Settle ∷ Frame ∷ []) ++ flat_map (leg seed) (range_with_len 0 moves)

-- the lines of the flight
unfoldable pub demo_lines : ℕ → List FlyLine
demo_lines seed = lines_after seed 64
