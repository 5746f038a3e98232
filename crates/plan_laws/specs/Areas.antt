-- How many cells pieces, filled regions and strips have, as statements: each is the contract of a law of this crate.
use Rattle.std.specs.Prelude.{◌≡◌, ℕ, ◌+◌, ◌≤◌, false, IsTrue, ℤ, Some, length}
use Rattle.clip_regions.specs.declared.region.Region.{Region}
use Rattle.clip_regions.specs.Regions.{is_empty, holds, area}
use Rattle.plan_model.specs.Window.{window}
use Rattle.plan_model.specs.Strips.{current_strip, hull, pieces}
use Rattle.plan_model.specs.States.{State, filled_at, window_at}
use Rattle.plan_model.specs.Rounds.{unfilled_cells}
use Rattle.plan_model.specs.Laws.{IsFilledIn}

-- a region of some cells has a piece
abbrev pub RegionsHavePieces : Type 0
RegionsHavePieces = (r : Region) → is_empty r ≡ false → 1 ≤ length (pieces r)

-- a region has no more pieces than cells
abbrev pub PiecesAreNoMoreThanCells : Type 0
PiecesAreNoMoreThanCells = (r : Region) → length (pieces r) ≤ area r

-- a region has no more cells than one that holds it
abbrev pub HeldHaveNoMoreCells : Type 0
HeldHaveNoMoreCells = (a b : Region) → IsTrue (holds a b) → area b ≤ area a

-- a filled region that grows by its current strip has the cells of both
abbrev pub HullsAddStrips : Type 0
HullsAddStrips =
    (k level : ℕ) (x y : ℤ) (filled strip : Region) → IsFilledIn filled (window k level x y) →
    current_strip filled (window k level x y) ≡ Some strip → area (hull filled strip) ≡ area filled + area strip

-- the cells of a level's window that are filled and those that aren't are the window's
abbrev pub UnfilledCells : Type 0
UnfilledCells =
    (st : State) (level : ℕ) → IsFilledIn (filled_at st level) (window_at st level) →
    unfilled_cells st level + area (filled_at st level) ≡ area (window_at st level)
