-- What the calls over a clip promise of a pass.
use Rattle.std.specs.Prelude.{◌≡◌, ℕ, ◌+◌, ◌<◌, ◌≤◌, true, List, [], ◌∷◌, ◌++◌, Option, Some, None, option_map}
use Rattle.plan_model.specs.States.{frame_of, OpenFrame}
use Rattle.plan_model.specs.Histories.{HasNoEntryOf}
use Rattle.plan_model.specs.declared.events.Event.{Event}
use Rattle.plan_model.specs.declared.events.Answer.{Answer}
use Rattle.plan_model.specs.declared.events.Entry.{Entry}
use Rattle.plan_model.specs.declared.events.JobNote.{JobNote}
use Rattle.plan_model.specs.declared.events.Work.TheVariants.{Free}
use Rattle.plan_holds.specs.Kept.{HasJob}
use Rattle.book_cells.specs.Cells.{IsPainted}
use Rattle.clip_book.specs.Jobs.{JobView, FilledView}
use Rattle.clip_book.specs.declared.answers.Claimed.{Claimed}
use Rattle.clip_book.specs.declared.answers.Claimed.TheVariants as C
use Rattle.clip_book.specs.declared.answers.Begun.{Begun}
use Rattle.clip_book.specs.declared.answers.Begun.TheVariants as B
use Rattle.gate_rule.specs.Flags.{flag, only, no_flags, without, either_flags, least}
use Rattle.gate_rule.specs.Rule.{IsLegal, places_in, GoesOn}
use Rattle.clip_gate.specs.Passes.{PassView, limit, ground_of_clip, state_of, part_of}

abbrev pub places_of_pass : PassView → List Entry → ℕ
places_of_pass pass log = places_in (ground_of_clip pass.clip) log

abbrev pub IsLegalFor : PassView → List Entry → Type 0
IsLegalFor pass log = IsLegal (ground_of_clip pass.clip) log

-- all of a pass is as before, but for its history and its heights
pub record IsSamePass (old new : PassView) : Type 0 where
  pub clip : new.clip ≡ old.clip
  pub number : new.number ≡ old.number
  pub numbers : new.numbers ≡ old.numbers
  pub left : new.left ≡ old.left

-- a job's heights are as before, for as long as the pass has it
abbrev pub KeepsHeights : PassView → PassView → Type 0
KeepsHeights old new = (note : JobNote) → HasJob (state_of old) old.number note → new.heights ≡ old.heights

-- the pass has made an event: others made some entries, none of the pass's numbers; then as many places as the call
-- asks for were free; and then comes the event with its answer, in a legal history
pub record HasMade (event : Event) (answer : Answer) (asked : ℕ) (old new : PassView) : Type 0 where
  pub before : List Entry
  pub waited : GoesOn old.numbers old.history before
  pub room : places_of_pass old before + asked ≤ limit
  pub made : new.history ≡ before ++ record { pass = old.number; event = event; answer = answer } ∷ []
  pub legal : IsLegalFor old new.history
  pub same : IsSamePass old new
  pub heights : KeepsHeights old new

-- the pass has made no event: others made some entries, none of the pass's numbers, and its part is as before
pub record HasWaited (old new : PassView) : Type 0 where
  pub waited : GoesOn old.numbers old.history new.history
  pub legal : IsLegalFor old new.history
  pub same : IsSamePass old new
  pub part : part_of new ≡ part_of old
  pub heights : new.heights ≡ old.heights

-- the journal is full: fewer places are free than the call asks for
pub record IsFull (asked : ℕ) (old new : PassView) : Type 0 where
  pub waits : HasWaited old new
  pub full : limit < places_of_pass old new.history + asked

-- how many places an end asks for: a frame's beginning counted that of its end
abbrev pub places_to_end : Option OpenFrame → ℕ
places_to_end None = 1
places_to_end (Some frame) = 0

-- a job is the one that the pass has of its clip: it names the clip's terrain, is the job of the pass in its history,
-- and its tile has the pass's heights
pub record IsJobOfPass (pass : PassView) (job : JobView) : Type 0 where
  pub land : job.land ≡ pass.clip.land
  pub note : HasJob (state_of pass) pass.number job.note
  pub tile : job.tile ≡ pass.heights

-- a claim that gives a job gives this one
abbrev pub GivesJob : PassView → Claimed → Type 0
GivesJob pass (C.Job job) = IsJobOfPass pass job
GivesJob pass _ = Unit {0}

-- the active regions that a beginning gives are those of the pass's frame
abbrev pub GivesActives : PassView → Begun → Type 0
GivesActives pass (B.Frame number actives) =
    option_map (λ frame. frame.actives) (frame_of (part_of pass)) ≡ Some actives
GivesActives pass _ = Unit {0}

-- a filled job is the one that the pass claimed of its clip, with the terrain's level heights in the job's cells
pub record IsFilledOfPass (pass : PassView) (job : FilledView) : Type 0 where
  pub land : job.land ≡ pass.clip.land
  pub note : HasJob (state_of pass) pass.number job.note
  pub painted : IsPainted pass.clip.land.terrain job.note.level job.note.piece.cells pass.heights job.tile

-- a pass is split: the least number that it had left to give is a new pass's, free, with the same history, in which it
-- has no entry
pub record IsSplit (old kept given : PassView) : Type 0 where
  pub had : flag old.left (least old.left) ≡ true
  pub number : given.number ≡ least old.left
  pub numbers : given.numbers ≡ only (least old.left)
  pub left : given.left ≡ no_flags
  pub history : given.history ≡ old.history
  pub clip : given.clip ≡ old.clip
  pub unused : HasNoEntryOf given.number given.history
  pub idle : part_of given ≡ Free
  pub loses : kept ≡ record old { left = without old.left (least old.left) }

-- a pass takes another over: its history goes on from both, with no entry of their numbers, and its part is as before
pub record IsJoined (old other new : PassView) : Type 0 where
  pub own : GoesOn old.numbers old.history new.history
  pub theirs : GoesOn other.numbers other.history new.history
  pub numbers : new.numbers ≡ either_flags old.numbers other.numbers
  pub left : new.left ≡ either_flags old.left other.left
  pub legal : IsLegalFor old new.history
  pub clip : new.clip ≡ old.clip
  pub number : new.number ≡ old.number
  pub part : part_of new ≡ part_of old
  pub heights : new.heights ≡ old.heights
