-- Heights of tiles that stand side by side.
use Rattle.std.specs.Prelude.{ℕ, ◌+◌, ◌-◌, ◌*◌, ◌^◌, ◌<◌, nat_lt, ℤ, pos, ◌+ℤ◌, ◌-ℤ◌, ◌≤ℤ◌, List, slice_index_or, IsTrue, if◌then◌else◌}
use Rattle.plan_model.specs.Blocks.{tile_of_cell}
use Rattle.torus_grid.specs.Grids.{Grid, is_home}

-- the height in column x, 0 to 15, and row y, 0 to 7, of a tile and the next one to the east
unfoldable pub beside : List ℤ → List ℤ → ℕ → ℕ → ℤ
beside west east x y =
    if nat_lt x 8 then slice_index_or west (8 * y + x) (pos 0) else slice_index_or east (8 * y + (x - 8)) (pos 0)

-- and in column x and row y, each 0 to 15, of two such pairs, the second to the south of the first
unfoldable pub among_four : List ℤ → List ℤ → List ℤ → List ℤ → ℕ → ℕ → ℤ
among_four nw ne sw se x y = if nat_lt y 8 then beside nw ne x y else beside sw se x (y - 8)

-- the tiles of seven by seven cells are at home
abbrev pub AreSevenHome : Grid → ℤ → ℤ → Type 0
AreSevenHome grid i0 j0 =
    (a b : ℕ) → a < 7 → b < 7 → IsTrue (is_home grid (tile_of_cell grid.k (i0 +ℤ pos a) (j0 +ℤ pos b)))

-- seven columns or rows from this one on are numbers of 32 bits
abbrev pub HasSixMore : ℤ → Type 0
HasSixMore z = (z +ℤ pos 6) ≤ℤ (pos (2 ^ 31) -ℤ pos 1)
