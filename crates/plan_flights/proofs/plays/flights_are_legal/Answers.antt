use Rattle.plan_flights.proofs.FlightLaws.{flights_are_legal}
use Rattle.plan_flights.proofs.plays.flights_are_legal.Goals as goal

pub returns : goal.returns
returns c = flights_are_legal c.laws_below.ensures
