-- Which states a book reaches: their numbers are within the limits, and each region lies where a window puts it.
use Rattle.std.specs.Prelude.{◌≡◌, ℕ, ◌^◌, ◌<◌, ◌≤◌, ◌⊎◌, ℤ, ◌≤ℤ◌, All, length, slice_index_or}
use Rattle.clip_regions.specs.declared.region.Region.{Region}
use Rattle.clip_regions.specs.Regions.{empty_region, HasEvenCorners}
use Rattle.plan_model.specs.Limits.{IsSize, IsLevelCount, IsViewed, IsViewer}
use Rattle.plan_model.specs.Window.{window}
use Rattle.plan_model.specs.States.{Level, OpenFrame, Pass, State, level_at, window_at}
use Rattle.plan_model.specs.declared.events.Work.TheVariants.{Free, Fills, Draws}
use Rattle.plan_model.specs.declared.events.Event.{Event}
use Rattle.plan_model.specs.declared.events.Event.TheVariants.{Move, Claim, Finish, Publish, Begin, End}

-- a region that has a cell lies in the window
pub record IsInside (window r : Region) : Type 0 where
  pub west : window.x0 ≤ℤ r.x0
  pub columns : r.x0 ≤ℤ r.x1
  pub east : r.x1 ≤ℤ window.x1
  pub north : window.y0 ≤ℤ r.y0
  pub rows : r.y0 ≤ℤ r.y1
  pub south : r.y1 ≤ℤ window.y1

-- a filled region is empty or lies in its window
abbrev pub IsFilledPart : Region → Region → Type 0
IsFilledPart window filled = (filled ≡ empty_region) ⊎ IsInside window filled

-- a region with even corners lies in the window
pub record IsEvenInside (window r : Region) : Type 0 where
  pub inside : IsInside window r
  pub even : HasEvenCorners r

-- a region is empty or lies in the window with even corners
abbrev pub IsPartOf : Region → Region → Type 0
IsPartOf window r = (r ≡ empty_region) ⊎ IsEvenInside window r

-- a level's filled region is empty or lies in its window with even corners, and its plan number is at most n
pub record IsSoundLevel (n : ℕ) (window : Region) (level : Level) : Type 0 where
  pub filled : IsPartOf window level.filled
  pub plan : level.plan ≤ n

-- a region is empty or lies, with even corners, in the window of a level for some viewer within the limits
pub record IsShown (k level : ℕ) (r : Region) : Type 0 where
  pub x : ℤ
  pub y : ℤ
  pub column : IsViewed x
  pub row : IsViewed y
  pub part : IsPartOf (window k level x y) r

-- a frame of so many levels has an active region for each
pub record IsSoundFrame (k count : ℕ) (frame : OpenFrame) : Type 0 where
  pub many : length frame.actives ≡ count
  pub shown : (level : ℕ) → level < count → IsShown k level (slice_index_or frame.actives level empty_region)

-- a pass's job is of a level below this count, and its frame has an active region for each of them
abbrev pub IsSoundPass : ℕ → ℕ → Pass → Type 0
IsSoundPass k count Free = Unit {0}
IsSoundPass k count (Fills job) = job.level < count
IsSoundPass k count (Draws frame) = IsSoundFrame k count frame

-- a state within the limits: its plan numbers and its number of frames are at most n, and each part of it is sound
pub record IsSound (n : ℕ) (st : State) : Type 0 where
  pub size : IsSize st.k
  pub many : IsLevelCount (length st.levels)
  pub passes : length st.passes ≡ 16
  pub viewer : IsViewer st.x st.y st.altitude
  pub levels : (level : ℕ) → level < length st.levels → IsSoundLevel n (window_at st level) (level_at st level)
  pub begun : st.begun ≤ n
  pub parts : All (IsSoundPass st.k (length st.levels)) st.passes

-- a state that can take one more event of a program whose counters have 64 bits
abbrev pub IsReady : State → Type 0
IsReady st = IsSound (2 ^ 63) st

-- an event that a state with this many levels can take: a published level is there, and a viewer is within the limits
abbrev pub IsTaken : ℕ → Event → Type 0
IsTaken levels (Move x y a) = IsViewer x y a
IsTaken levels Claim = Unit {0}
IsTaken levels Finish = Unit {0}
IsTaken levels (Publish level) = level < levels
IsTaken levels Begin = Unit {0}
IsTaken levels End = Unit {0}
