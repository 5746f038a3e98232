-- What is true of a filled region that grows in its window, as statements: each is the contract of a law of this crate.
use Rattle.std.specs.Prelude.{◌≡◌, ℕ, ◌≤◌, ◌↔◌, false, not, IsTrue, ℤ, Some, is_some}
use Rattle.clip_regions.specs.declared.region.Region.{Region}
use Rattle.clip_regions.specs.Regions.{is_empty, holds}
use Rattle.plan_model.specs.Window.{window}
use Rattle.plan_model.specs.Strips.{current_strip, hull}
use Rattle.plan_model.specs.States.{same_region}
use Rattle.plan_model.specs.Sound.{IsInside, IsEvenInside, IsPartOf}
use Rattle.plan_model.specs.Laws.{IsFilledIn}

-- a region of some cells lies in a window by its corners exactly where the window holds it
abbrev pub InsideIsHeld : Type 0
InsideIsHeld =
    (window r : Region) → IsInside window r ↔ ((is_empty r ≡ false) × IsTrue (holds window r))

-- a filled region that is empty or lies in its window with even corners is empty or lies in the window
abbrev pub PartsAreFilledIn : Type 0
PartsAreFilledIn = (window filled : Region) → IsPartOf window filled → IsFilledIn filled window

-- a filled region and its current strip grow to a region with even corners in the window
abbrev pub HullsAreEvenInside : Type 0
HullsAreEvenInside =
    (k level : ℕ) (x y : ℤ) (filled strip : Region) → 2 ≤ k → IsPartOf (window k level x y) filled →
    current_strip filled (window k level x y) ≡ Some strip →
    IsEvenInside (window k level x y) (hull filled strip)

-- the current strip has a cell and lies in the window
abbrev pub StripsInWindows : Type 0
StripsInWindows =
    (k level : ℕ) (x y : ℤ) (filled strip : Region) → IsFilledIn filled (window k level x y) →
    current_strip filled (window k level x y) ≡ Some strip →
    (is_empty strip ≡ false) × IsTrue (holds (window k level x y) strip)

-- there is a current strip unless the filled region is the window
abbrev pub StripsUnlessWhole : Type 0
StripsUnlessWhole =
    (k level : ℕ) (x y : ℤ) (filled : Region) → IsFilledIn filled (window k level x y) →
    is_some (current_strip filled (window k level x y)) ≡ not (same_region filled (window k level x y))
