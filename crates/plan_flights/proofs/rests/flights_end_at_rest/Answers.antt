use Rattle.plan_flights.proofs.Lines.{flights_end_at_rest}
use Rattle.plan_flights.proofs.rests.flights_end_at_rest.Goals as goal

pub returns : goal.returns
returns c = flights_end_at_rest c.laws_below.ensures
