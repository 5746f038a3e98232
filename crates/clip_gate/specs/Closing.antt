-- What a clip ends with.
use Rattle.std.specs.Prelude.{◌≡◌, List}
use Rattle.plan_model.specs.Histories.{moves}
use Rattle.plan_model.specs.declared.events.Entry.{Entry}
use Rattle.plan_model.specs.declared.events.JobNote.{JobNote}
use Rattle.plan_holds.specs.Kept.{HasJob}
use Rattle.clip_book.specs.Books.{BookView}
use Rattle.clip_book.specs.Tiles.{handed_to}
use Rattle.gate_rule.specs.Rule.{IsLegal, state_in, GoesOn}
use Rattle.clip_gate.specs.Passes.{PassView, ground_of_clip, state_of}
use Rattle.clip_gate.specs.declared.faults.CloseFault.{CloseFault}
use Rattle.clip_gate.specs.declared.faults.CloseFault.TheVariants.{TurnOut}

-- the journal is legal and goes on from the pass's history, by no entry of its numbers; the book names the terrain, has
-- the journal's state and number of moves, and, where the pass has a job, its 64 heights
pub record Closes (pass : PassView) (book : BookView) (journal : List Entry) : Type 0 where
  pub goes_on : GoesOn pass.numbers pass.history journal
  pub legal : IsLegal (ground_of_clip pass.clip) journal
  pub land : book.land ≡ pass.clip.land
  pub state : book.plan.state ≡ state_in (ground_of_clip pass.clip) journal
  pub moves : book.plan.moves ≡ moves journal
  pub heights : (note : JobNote) → HasJob (state_of pass) pass.number note →
      handed_to book.handed pass.number ≡ pass.heights

-- a clip isn't closed where the two counts of tickets differ
abbrev pub IsTurnOut : CloseFault → Type 0
IsTurnOut (TurnOut ticket serving) = ticket ≡ serving → ⊥
