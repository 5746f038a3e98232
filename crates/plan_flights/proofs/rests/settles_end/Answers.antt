use Rattle.plan_flights.proofs.Settling.{settles_end}
use Rattle.plan_flights.proofs.rests.settles_end.Goals as goal

pub returns : goal.returns
returns c = settles_end c.laws_below.ensures
