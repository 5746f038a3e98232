-- What a book of the plan knows: the viewer, what is filled and finished on each level, and what each pass has.
-- It has no heights.
use Rattle.std.specs.Prelude.{ℕ, ◌+◌, ◌-◌, ◌^◌, Bool, true, false, ◌&&◌, ◌||◌, ◌==◌, nat_le, ℤ, pos, List, [], map, filter, length, replicate, reverse, slice_index_or, slice_set, Option, Some, None, unwrap_or}
use Rattle.std.specs.List.{range_with_len}
use Rattle.clip_regions.specs.declared.region.Region.{Region}
use Rattle.clip_regions.specs.Regions.{empty_region, holds}
use Rattle.plan_model.specs.Window.{window}
use Rattle.plan_model.specs.Strips.{first_of}
use Rattle.plan_model.specs.declared.tiles.Piece.{Piece}
use Rattle.plan_model.specs.declared.events.JobNote.{JobNote}
use Rattle.plan_model.specs.declared.events.Work.{Work}
use Rattle.plan_model.specs.declared.events.Work.TheVariants.{Free, Fills, Draws}

-- a level: its filled region, the finished pieces of its current strip in the strip's order, and its plan number
pub record Level : Type 0 where
  pub filled : Region
  pub finished : List Piece
  pub plan : ℕ

-- a frame that was begun: its number, the viewer, and the active regions, the finest first
pub record OpenFrame : Type 0 where
  pub number : ℕ
  pub x : ℤ
  pub y : ℤ
  pub actives : List Region

-- what a pass has: nothing, a job or a frame
abbrev pub Pass : Type 0
Pass = Work OpenFrame

-- the state: K, the viewer and its altitude, the levels, the finest first, the count of frames begun, and the passes
pub record State : Type 0 where
  pub k : ℕ
  pub x : ℤ
  pub y : ℤ
  pub altitude : ℕ
  pub levels : List Level
  pub begun : ℕ
  pub passes : List Pass

-- a level of which nothing is filled
abbrev pub empty_level : Level
empty_level = record { filled = empty_region; finished = []; plan = 0 }

-- the state at the start, for K and a number of levels: viewer (0, 0) at altitude 0, nothing filled, 16 free passes
unfoldable pub start_state : ℕ → ℕ → State
start_state k levels = record {
  k = k;
  x = pos 0;
  y = pos 0;
  altitude = 0;
  levels = replicate levels empty_level;
  begun = 0;
  passes = replicate 16 Free;
}

-- the level of a number, and what the pass of a number has
abbrev pub level_at : State → ℕ → Level
level_at st level = slice_index_or st.levels level empty_level

abbrev pub pass_at : State → ℕ → Pass
pass_at st p = slice_index_or st.passes p Free

-- the state with another in the place of a level, and of what pass p has
abbrev pub with_level : State → ℕ → Level → State
with_level st level new = record st { levels = slice_set st.levels level new }

abbrev pub with_pass : State → ℕ → Pass → State
with_pass st p new = record st { passes = slice_set st.passes p new }

-- the numbers of the levels, from the finest and from the coarsest
abbrev pub level_numbers : State → List ℕ
level_numbers st = range_with_len 0 (length st.levels)

abbrev pub from_coarsest : State → List ℕ
from_coarsest st = reverse (level_numbers st)

-- ---- the levels in use

-- a level of so many is seen from an altitude: it is the coarsest, or the altitude is at most 2^(K + level)
unfoldable pub is_seen : ℕ → ℕ → ℕ → ℕ → Bool
is_seen k levels altitude level = (level + 1 == levels) || nat_le altitude (2 ^ (k + level))

-- the finest level in use of so many, for an altitude: the first that is seen from it (0 where there is no level)
unfoldable pub finest_used : ℕ → ℕ → ℕ → ℕ
finest_used k levels altitude = unwrap_or (first_of (filter (is_seen k levels altitude) (range_with_len 0 levels))) 0

-- the finest level in use
abbrev pub finest_at : State → ℕ
finest_at st = finest_used st.k (length st.levels) st.altitude

-- the level is in use: it is not left out
unfoldable pub is_used : State → ℕ → Bool
is_used st level = nat_le (finest_at st) level

-- the numbers of the levels in use, from the finest and from the coarsest
abbrev pub levels_used : State → List ℕ
levels_used st = range_with_len (finest_at st) (length st.levels - finest_at st)

abbrev pub used_from_coarsest : State → List ℕ
used_from_coarsest st = reverse (levels_used st)

-- ---- what a level and a pass have

-- the filled region of a level, and all of them, the finest first
abbrev pub filled_at : State → ℕ → Region
filled_at st level = (level_at st level).filled

abbrev pub filled_regions : State → List Region
filled_regions st = map (λ level. level.filled) st.levels

-- the window of a level
abbrev pub window_at : State → ℕ → Region
window_at st level = window st.k level st.x st.y

-- two regions have the same cells
unfoldable pub same_region : Region → Region → Bool
same_region a b = holds a b && holds b a

-- the level's filled region is its window
unfoldable pub is_whole : State → ℕ → Bool
is_whole st level = same_region (filled_at st level) (window_at st level)

-- the job that a pass has, and its frame
abbrev pub job_of : Pass → Option JobNote
job_of Free = None
job_of (Fills job) = Some job
job_of (Draws frame) = None

abbrev pub frame_of : Pass → Option OpenFrame
frame_of Free = None
frame_of (Fills job) = None
frame_of (Draws frame) = Some frame

-- a pass has a job or a frame
abbrev pub has_work : Pass → Bool
has_work Free = false
has_work (Fills job) = true
has_work (Draws frame) = true
