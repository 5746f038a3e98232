-- What is true of places and of written cells, as statements: each is the contract of a law of this crate.
use Rattle.std.specs.Prelude.{◌≡◌, ℕ, ◌≤◌, IsTrue, ℤ, pos, map, slice_index_or}
use Rattle.clip_regions.specs.declared.region.Region.{Region}
use Rattle.clip_regions.specs.Regions.{contains, cells}
use Rattle.plan_model.specs.Blocks.{tile_of_cell, wrapped_place}
use Rattle.torus_grid.specs.Places.{place_in_tile, place_among}

-- two cells of one tile that have one place in it have one wrapped place
abbrev pub PlacesInTiles : Type 0
PlacesInTiles =
    (k : ℕ) (i j i' j' : ℤ) → 3 ≤ k → tile_of_cell k i j ≡ tile_of_cell k i' j' →
    place_in_tile i j ≡ place_in_tile i' j' → wrapped_place k i j ≡ wrapped_place k i' j'

-- where heights are listed for the cells of a region, row by row, each cell's stands at its place among them
abbrev pub CellsInRows : Type 0
CellsInRows =
    (r : Region) (h : ℤ × ℤ → ℤ) (i j : ℤ) → IsTrue (contains r i j) →
    slice_index_or (map h (cells r)) (place_among r i j) (pos 0) ≡ h (i, j)
