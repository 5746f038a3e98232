-- The laws of the crates below on which the laws of flights stand.
use Rattle.plan_laws.specs.Areas.{RegionsHavePieces, PiecesAreNoMoreThanCells, HeldHaveNoMoreCells, HullsAddStrips}
use Rattle.plan_laws.specs.Areas.{UnfilledCells}
use Rattle.plan_laws.specs.Finished.{FinishedAndUnfinished}
use Rattle.plan_laws.specs.Hulls.{InsideIsHeld, PartsAreFilledIn, HullsAreEvenInside, StripsInWindows}
use Rattle.plan_laws.specs.Hulls.{StripsUnlessWhole}
use Rattle.plan_laws.specs.Needs.{NeedsHaveCells, NeedsInCoarserWindows}
use Rattle.plan_histories.specs.Legal.{LegalWithOneMore, StatesAfterOneMore}
use Rattle.plan_histories.specs.Parts.{MovesLeaveParts, PublicationsLeaveParts, OthersKeepParts}
use Rattle.plan_sound.specs.Laws.{SoundStarts, SoundSteps, WindowsHaveCells}

pub record LawsBelow : Type 0 where
  pub some_piece : RegionsHavePieces
  pub few_pieces : PiecesAreNoMoreThanCells
  pub held_cells : HeldHaveNoMoreCells
  pub hull_cells : HullsAddStrips
  pub unfilled : UnfilledCells
  pub together : FinishedAndUnfinished
  pub held : InsideIsHeld
  pub filled_in : PartsAreFilledIn
  pub hulls : HullsAreEvenInside
  pub strips : StripsInWindows
  pub unless_whole : StripsUnlessWhole
  pub need_cells : NeedsHaveCells
  pub needs : NeedsInCoarserWindows
  pub windows : WindowsHaveCells
  pub legal_more : LegalWithOneMore
  pub after_more : StatesAfterOneMore
  pub moves_leave : MovesLeaveParts
  pub publications_leave : PublicationsLeaveParts
  pub others_keep : OthersKeepParts
  pub sound_starts : SoundStarts
  pub sound_steps : SoundSteps
