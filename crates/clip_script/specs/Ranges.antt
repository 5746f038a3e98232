-- The ranges of what scripts say.
use Rattle.std.specs.Prelude.{ℕ, ℤ, ◌≤◌, ◌<◌, List, length, All}
use Rattle.plan_model.specs.Limits.{IsSize, IsLevelCount, IsViewer}
use Rattle.plan_model.specs.Sound.{IsTaken}
use Rattle.plan_model.specs.declared.events.Event.{Event}
use Rattle.plan_model.specs.declared.events.FlyLine.{FlyLine}
use Rattle.plan_model.specs.declared.events.FlyLine.TheVariants.{Move, Frame, Settle}
use Rattle.region_cull.specs.Views.{IsHalfSpace}
use Rattle.mesh_model.specs.declared.shapes.HalfSpace.{HalfSpace}
use Rattle.clip_script.specs.declared.step.Place.{Place}
use Rattle.clip_script.specs.declared.step.Step.{Step}
use Rattle.clip_script.specs.declared.step.Step.TheVariants.{Book, See, EndSeen}

-- the size of the grids and the number of levels are in range
pub record AreSizes (k levels : ℕ) : Type 0 where
  pub size : IsSize k
  pub many : IsLevelCount levels

-- a view has at most six half-spaces, with numbers in their limits
pub record IsView (spaces : List HalfSpace) : Type 0 where
  pub few : length spaces ≤ 6
  pub near : All IsHalfSpace spaces

-- an event of a pass that a book of this many levels can take
pub record IsAsked (levels p : ℕ) (e : Event) : Type 0 where
  pub pass : p < 16
  pub event : IsTaken levels e

-- the numbers of a step are in range, in a script with this many levels
abbrev pub IsStep : ℕ → Step → Type 0
IsStep levels (Book pass event) = IsAsked levels pass event
IsStep levels (See spaces) = IsView spaces
IsStep levels (EndSeen pass) = pass < 16

-- a number from low to high
pub record IsBetween (low high n : ℕ) : Type 0 where
  pub above : low ≤ n
  pub below : n ≤ high

-- a place of a viewer is in the limits
abbrev pub IsPlace : Place → Type 0
IsPlace place = IsViewer place.x place.y place.a

-- the numbers of a line of a flight are in range
abbrev pub IsFlown : FlyLine → Type 0
IsFlown (Move x y a) = IsViewer x y a
IsFlown Frame = Unit {0}
IsFlown Settle = Unit {0}

-- a move is in the limits
abbrev pub IsMove : ℤ × ℤ × ℕ → Type 0
IsMove place = IsViewer place.0 place.1 place.2

-- the claims of each worker and the beginnings of each renderer are in range
pub record IsWork (claims begins : ℕ) : Type 0 where
  pub few_claims : claims ≤ 100000
  pub few_begins : begins ≤ 1000
