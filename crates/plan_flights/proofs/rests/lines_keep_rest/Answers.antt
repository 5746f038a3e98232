use Rattle.plan_flights.proofs.Lines.{lines_keep_rest}
use Rattle.plan_flights.proofs.rests.lines_keep_rest.Goals as goal

pub returns : goal.returns
returns c = lines_keep_rest c.laws_below.ensures
