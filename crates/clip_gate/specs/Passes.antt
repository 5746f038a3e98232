-- What a contract sees of a clip, and what a pass of it knows.
use Rattle.std.specs.Prelude.{◌≡◌, ℕ, ◌<◌, ◌≤◌, ◌⊎◌, ℤ, Bool, true, not, List, [], length, Option, Some, None}
use Rattle.atomic_table.specs.Seated.{TableId}
use Rattle.clip_regions.specs.declared.region.Region.{Region}
use Rattle.clip_regions.specs.Regions.{empty_region}
use Rattle.plan_model.specs.States.{State, OpenFrame, Pass, pass_at, frame_of, has_work}
use Rattle.plan_model.specs.Histories.{HasNoEntryOf}
use Rattle.plan_model.specs.declared.events.Entry.{Entry}
use Rattle.plan_model.specs.declared.events.Work.TheVariants.{Free}
use Rattle.plan_holds.specs.Kept.{active_in}
use Rattle.terrain_store.specs.Shapes.{Land}
use Rattle.gate_rule.specs.Flags.{flag, only, all_but_first}
use Rattle.gate_rule.specs.Rule.{Ground, IsLegal, state_in, places_in}
use Rattle.gate_rule.specs.Plays.{Sat}
use Rattle.gate_rule.specs.Steps.{Rests}
use Rattle.gate_rule.specs.declared.view.View.{View}
use Rattle.clip_gate.specs.declared.part.Part.{Part}
use Rattle.clip_gate.specs.Parts.{IsPart}

-- a clip: which one it is, its terrain with its levels, and K
pub record ClipView : Type 0 where
  pub table : TableId
  pub land : Land
  pub size : ℕ

-- what a pass knows: its clip, its number, its numbers (its own and those that it took over) and those that it has left
-- to give, as 16 flags; the history; and of its job the 64 heights of the tile as the claim handed it out
pub record PassView : Type 0 where
  pub clip : ClipView
  pub number : ℕ
  pub numbers : List Bool
  pub left : List Bool
  pub history : List Entry
  pub heights : List ℤ

abbrev pub ground_of_clip : ClipView → Ground
ground_of_clip clip = record { land = clip.land; size = clip.size }

-- how many places a journal has
abbrev pub limit : ℕ
limit = 1048576

-- the state that its history leaves, and its part in it: nothing, a job or a frame
abbrev pub state_of : PassView → State
state_of pass = state_in (ground_of_clip pass.clip) pass.history

abbrev pub part_of : PassView → Pass
part_of pass = pass_at (state_of pass) pass.number

-- it has neither a job nor a frame
abbrev pub is_free : PassView → Bool
is_free pass = not (has_work (part_of pass))

-- the active region of a level in a frame, where there is one
abbrev pub region_in : Option OpenFrame → ℕ → Region
region_in None level = empty_region
region_in (Some frame) level = active_in frame level

-- the region of a level that the pass's frame shows
abbrev pub shown_by : PassView → ℕ → Region
shown_by pass level = region_in (frame_of (part_of pass)) level

-- each number from 0 to 15 is one of the pass's, or one that it has left to give
abbrev pub HasAllNumbers : PassView → Type 0
HasAllNumbers pass = (p : ℕ) → p < 16 → (flag pass.numbers p ≡ true) ⊎ (flag pass.left p ≡ true)

-- a number has no entry in the pass's history, and neither a job nor a frame
pub record IsUnused (pass : PassView) (p : ℕ) : Type 0 where
  pub entries : HasNoEntryOf p pass.history
  pub idle : pass_at (state_of pass) p ≡ Free

-- what is true of every pass: its number is among its numbers, and below 16; its history is legal, and fits in a
-- journal; of its numbers only its own may have a job or a frame; and one that it has left to give isn't used
pub record IsSound (pass : PassView) : Type 0 where
  pub low : pass.number < 16
  pub own : flag pass.numbers pass.number ≡ true
  pub legal : IsLegal (ground_of_clip pass.clip) pass.history
  pub short : places_in (ground_of_clip pass.clip) pass.history ≤ limit
  pub idle : (p : ℕ) → flag pass.numbers p ≡ true → (p ≡ pass.number → ⊥) → pass_at (state_of pass) p ≡ Free
  pub flags : length pass.left ≡ 16
  pub unused : (p : ℕ) → flag pass.left p ≡ true → IsUnused pass p

-- the pass that a clip starts with: number 0, with the numbers 1 to 15 left to give
abbrev pub first_pass : ClipView → PassView
first_pass clip = record { clip = clip; number = 0; numbers = only 0; left = all_but_first; history = []; heights = [] }

-- ---- what the code keeps of a pass
abbrev pub pass_of : TableId → View → PassView
pass_of table v = record {
  clip = record { table = table; land = v.about; size = v.size };
  number = v.own;
  numbers = v.numbers;
  left = v.left;
  history = v.seen;
  heights = v.heights;
}

pub record IsPass (table : TableId) (me : Sat) (number : ℕ) (left : List Bool) (part : Part) : Type 0 where
  pub rests : Rests me
  pub own : number ≡ me.0.own
  pub giving : left ≡ me.0.left
  pub holds : IsPart part (part_of (pass_of table me.0))
