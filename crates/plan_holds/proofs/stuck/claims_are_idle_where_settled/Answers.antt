use Rattle.plan_holds.proofs.Blocked.{idle_where_settled}
use Rattle.plan_holds.proofs.stuck.claims_are_idle_where_settled.Goals as goal

pub returns : goal.returns
returns c =
    idle_where_settled (record {
      needs = c.needs_lie_in_coarser_windows.ensures;
      strips = c.strips_lie_in_windows.ensures;
      whole = c.strips_are_there_unless_whole.ensures;
    })
