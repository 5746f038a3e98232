-- The cells of a region with their level.
use Rattle.std.specs.Prelude.{ℕ, ℤ, pos, ◌+ℤ◌}
use Rattle.clip_regions.specs.declared.region.Region.{Region}
use Rattle.mesh_plain_heights.specs.declared.places.Cell.{Cell}

-- the cell in column u and row v of a region, counted from its north-west corner
abbrev pub cell_in : ℕ → Region → ℕ → ℕ → Cell
cell_in level r v u = record { level = level; i = r.x0 +ℤ pos u; j = r.y0 +ℤ pos v }

-- a pair of column and row as a cell of a level
abbrev pub named : ℕ → ℤ × ℤ → Cell
named level pair = record { level = level; i = pair.0; j = pair.1 }
