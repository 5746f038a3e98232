use Rattle.plan_holds.proofs.Blocked.{rested_pieces}
use Rattle.plan_holds.proofs.stuck.rested_pieces_are_offered.Goals as goal

pub returns : goal.returns
returns c =
    rested_pieces (record {
      needs = c.needs_lie_in_coarser_windows.ensures;
      strips = c.strips_lie_in_windows.ensures;
      whole = c.strips_are_there_unless_whole.ensures;
    })
