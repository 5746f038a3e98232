-- All predictions of a block, row by row.
use Rattle.std.specs.Prelude.{◌≡◌, ℕ, ℤ, pos, ◌+ℤ◌, ◌*ℤ◌, List, [], ◌∷◌, map, slice_index_or}
use Rattle.std.specs.List.{range_with_len}
use Rattle.clip_regions.specs.FloorDivision.{floor_div}
use Rattle.four_point.specs.Prediction.{weighted, prediction}
use Rattle.four_point.specs.Patches.{IsAtMost, patch_height}
use Rattle.four_point.specs.declared.patch.Patch.{Patch}
use Rattle.four_point.specs.declared.block.Four.{Four}
use Rattle.four_point.specs.declared.block.Line.{Line}

-- each of the four is at most n in size
pub record AreAtMost (n : ℕ) (four : Four) : Type 0 where
  pub p : IsAtMost n four.p
  pub q : IsAtMost n four.q
  pub r : IsAtMost n four.r
  pub s : IsAtMost n four.s

-- the height in column a of a row
abbrev pub in_row : List ℤ → ℕ → ℤ
in_row row a = slice_index_or row a (pos 0)

-- the four are the weighted sums along a row of seven heights
pub record AreSumsOf (row : List ℤ) (four : Four) : Type 0 where
  pub p : four.p ≡ weighted (in_row row 0) (in_row row 1) (in_row row 2) (in_row row 3)
  pub q : four.q ≡ weighted (in_row row 1) (in_row row 2) (in_row row 3) (in_row row 4)
  pub r : four.r ≡ weighted (in_row row 2) (in_row row 3) (in_row row 4) (in_row row 5)
  pub s : four.s ≡ weighted (in_row row 3) (in_row row 4) (in_row row 5) (in_row row 6)

-- the four are the heights of a row of seven in its columns 1 to 4
pub record AreHeightsOf (row : List ℤ) (four : Four) : Type 0 where
  pub p : four.p ≡ in_row row 1
  pub q : four.q ≡ in_row row 2
  pub r : four.r ≡ in_row row 3
  pub s : four.s ≡ in_row row 4

pub record IsLineOf (row : List ℤ) (line : Line) : Type 0 where
  pub heights : AreHeightsOf row line.heights
  pub sums : AreSumsOf row line.sums

-- heights of 16 bits and their sums
pub record IsSmallLine (line : Line) : Type 0 where
  pub heights : AreAtMost 32768 line.heights
  pub sums : AreAtMost 655360 line.sums

-- the four are the weighted sums of four others, column by column
pub record AreWeighted (before near far beyond four : Four) : Type 0 where
  pub p : four.p ≡ weighted before.p near.p far.p beyond.p
  pub q : four.q ≡ weighted before.q near.q far.q beyond.q
  pub r : four.r ≡ weighted before.r near.r far.r beyond.r
  pub s : four.s ≡ weighted before.s near.s far.s beyond.s

-- a weighted sum of four heights, and one of sixteen, rounded to whole metres
abbrev pub over_16 : ℤ → ℤ
over_16 sum = floor_div (sum +ℤ pos 8) 16

abbrev pub over_256 : ℤ → ℤ
over_256 sum = floor_div (sum +ℤ pos 128) 256

-- the cells of an even row: heights, and between them the sums along the row
abbrev pub even_cells : Line → List ℤ
even_cells line =
    line.heights.p ∷ over_16 line.sums.p ∷ line.heights.q ∷ over_16 line.sums.q
    ∷ line.heights.r ∷ over_16 line.sums.r ∷ line.heights.s ∷ over_16 line.sums.s ∷ []

-- the cells of an odd row: the sums down columns, and between them those of sixteen heights
abbrev pub odd_cells : Four → Four → List ℤ
odd_cells columns squares =
    over_16 columns.p ∷ over_256 squares.p ∷ over_16 columns.q ∷ over_256 squares.q
    ∷ over_16 columns.r ∷ over_256 squares.r ∷ over_16 columns.s ∷ over_256 squares.s ∷ []

-- each number of a row of predictions is at most 51200 in size
abbrev pub AreSmall : List ℤ → Type 0
AreSmall row = (a : ℕ) → IsAtMost 51200 (slice_index_or row a (pos 0))

-- four numbers of rows above and below a cell's place, weighted and rounded: of heights, and of sums
abbrev pub down_16 : ℤ → ℤ → ℤ → ℤ → ℤ
down_16 a b c d = over_16 (weighted a b c d)

abbrev pub down_256 : ℤ → ℤ → ℤ → ℤ → ℤ
down_256 a b c d = over_256 (weighted a b c d)

-- the cells of a row between the middle two of four coarser ones
abbrev pub middle_cells : Line → Line → Line → Line → List ℤ
middle_cells a b c d =
    down_16 a.heights.p b.heights.p c.heights.p d.heights.p ∷ down_256 a.sums.p b.sums.p c.sums.p d.sums.p
    ∷ down_16 a.heights.q b.heights.q c.heights.q d.heights.q ∷ down_256 a.sums.q b.sums.q c.sums.q d.sums.q
    ∷ down_16 a.heights.r b.heights.r c.heights.r d.heights.r ∷ down_256 a.sums.r b.sums.r c.sums.r d.sums.r
    ∷ down_16 a.heights.s b.heights.s c.heights.s d.heights.s ∷ down_256 a.sums.s b.sums.s c.sums.s d.sums.s ∷ []

abbrev pub AreSmallRows : List (List ℤ) → Type 0
AreSmallRows rows = (b : ℕ) → AreSmall (slice_index_or rows b [])

-- the eight predictions of a row of cells, from a column on
abbrev pub row_predictions : (ℤ → ℤ → ℤ) → ℤ → ℤ → List ℤ
row_predictions coarser first j = map (λ a. prediction coarser (first +ℤ pos a) j) (range_with_len 0 8)

-- the first column or row of the block whose patch begins at a coarser one
abbrev pub first_cell : ℤ → ℤ
first_cell coarser = pos 2 *ℤ coarser +ℤ pos 2

-- the rows are the predictions of the 64 cells of a patch's block
abbrev pub ArePredictions : Patch → List (List ℤ) → Type 0
ArePredictions patch rows =
    rows ≡ map
    (λ b. row_predictions (patch_height patch) (first_cell patch.i0) (first_cell patch.j0 +ℤ pos b))
    (range_with_len 0 8)
