use Rattle.plan_histories.proofs.RunLaws.{runs_are_legal}
use Rattle.plan_histories.proofs.plays.runs_are_legal.Goals as goal

pub returns : goal.returns
returns c = runs_are_legal
