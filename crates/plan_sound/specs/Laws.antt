-- What is true of the states that a book reaches, as statements: each is the contract of a law of this crate.
use Rattle.std.specs.Prelude.{◌≡◌, ℕ, ◌+◌, ◌^◌, ◌<◌, ◌≤◌, ℤ, All, length, IfSome}
use Rattle.clip_regions.specs.declared.region.Region.{Region}
use Rattle.clip_regions.specs.Regions.{IsWithin}
use Rattle.plan_model.specs.Limits.{IsSize, IsLevelCount, IsViewed}
use Rattle.plan_model.specs.Window.{window}
use Rattle.plan_model.specs.Strips.{current_strip}
use Rattle.plan_model.specs.States.{State, OpenFrame, start_state, filled_regions, window_at}
use Rattle.plan_model.specs.Claims.{offers, strip_at}
use Rattle.plan_model.specs.Steps.{step, next_frame}
use Rattle.plan_model.specs.Sound.{IsInside, IsFilledPart, IsSoundFrame, IsSound, IsTaken}
use Rattle.plan_model.specs.declared.events.Event.{Event}

-- ---- events

-- every start is sound
abbrev pub SoundStarts : Type 0
SoundStarts = (k levels : ℕ) → IsSize k → IsLevelCount levels → IsSound 0 (start_state k levels)

-- an event that can be taken leaves a sound state sound: its numbers rise by at most one
abbrev pub SoundSteps : Type 0
SoundSteps =
    (n : ℕ) (st : State) (p : ℕ) (event : Event) → IsTaken (length st.levels) event → IsSound n st
    → IsSound (n + 1) (step st p event).state

-- a sound state is sound for every greater bound
abbrev pub WiderBounds : Type 0
WiderBounds = (n m : ℕ) (st : State) → n ≤ m → IsSound n st → IsSound m st

-- the later state has the K and the numbers of levels and of passes of the earlier one
pub record HasSizeOf (st next : State) : Type 0 where
  pub k : next.k ≡ st.k
  pub levels : length next.levels ≡ length st.levels
  pub passes : length next.passes ≡ length st.passes

-- an event leaves K and the numbers of levels and of passes
abbrev pub StepsKeepSizes : Type 0
StepsKeepSizes = (st : State) (p : ℕ) (event : Event) → HasSizeOf st (step st p event).state

-- ---- regions

-- a window of a viewer within the limits lies near the mosaic's corner
abbrev pub WindowsAreNear : Type 0
WindowsAreNear =
    (k level : ℕ) (x y : ℤ) → IsSize k → IsViewed x → IsViewed y → IsWithin (2 ^ 24) (window k level x y)

-- a window has a cell
abbrev pub WindowsHaveCells : Type 0
WindowsHaveCells = (k level : ℕ) (x y : ℤ) → IsInside (window k level x y) (window k level x y)

-- the first strip of a filled region lies in its window
abbrev pub StripsAreInside : Type 0
StripsAreInside =
    (filled window : Region) → IsFilledPart window filled → IsInside window window
    → IfSome (current_strip filled window) (IsInside window)

-- the current strip of a level of a sound state lies in its window
abbrev pub SoundStrips : Type 0
SoundStrips =
    (n : ℕ) (st : State) (level : ℕ) → level < length st.levels → IsSound n st
    → IfSome (strip_at st level) (IsInside (window_at st level))

-- the filled regions of a sound state lie near the mosaic's corner
abbrev pub FilledAreNear : Type 0
FilledAreNear = (n : ℕ) (st : State) → IsSound n st → All (IsWithin (2 ^ 24)) (filled_regions st)

-- the frame that a sound state would begin has an active region for each level, each in a window of its level
abbrev pub SoundFrames : Type 0
SoundFrames = (n : ℕ) (st : State) → IsSound n st → IsSoundFrame st.k (length st.levels) (next_frame st)

-- the active regions of a sound frame lie near the mosaic's corner
abbrev pub ActivesAreNear : Type 0
ActivesAreNear =
    (k count : ℕ) (frame : OpenFrame) → IsSize k → IsSoundFrame k count frame → All (IsWithin (2 ^ 24)) frame.actives

-- each piece that can be claimed is of a level that is there
abbrev pub OffersAreThere : Type 0
OffersAreThere = (st : State) → All (λ offer. offer.level < length st.levels) (offers st)
