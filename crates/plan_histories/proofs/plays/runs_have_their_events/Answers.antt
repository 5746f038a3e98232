use Rattle.plan_histories.proofs.RunLaws.{runs_have_their_events}
use Rattle.plan_histories.proofs.plays.runs_have_their_events.Goals as goal

pub returns : goal.returns
returns c = runs_have_their_events
