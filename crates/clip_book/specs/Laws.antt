-- What is true of lists of heights, as a statement: the contract of a law of this crate.
use Rattle.std.specs.Prelude.{◌≡◌, ℕ, ◌/◌, ◌%◌, ◌<◌, ℤ, pos, ◌+ℤ◌, List, length, map, slice_index_or}
use Rattle.clip_regions.specs.declared.region.Region.{Region}
use Rattle.clip_regions.specs.Regions.{columns, area, cells}

-- the height at place k of a list is that of the region's cell in column k mod across and row k div across
abbrev pub StandByPlaces : (ℤ → ℤ → ℤ) → Region → List ℤ → Type 0
StandByPlaces height r out =
    (k : ℕ) → k < length out →
    slice_index_or out k (pos 0) ≡ height (r.x0 +ℤ pos (k % columns r)) (r.y0 +ℤ pos (k / columns r))

-- such a list, of as many heights as the region has cells, has the height of each cell in their order
abbrev pub ReadByPlaces : Type 0
ReadByPlaces =
    (height : ℤ → ℤ → ℤ) (r : Region) (out : List ℤ) → length out ≡ area r → StandByPlaces height r out →
    out ≡ map (λ c. height c.0 c.1) (cells r)
