use Rattle.plan_flights.proofs.FlightLaws.{flights_are_runs}
use Rattle.plan_flights.proofs.plays.flights_are_runs.Goals as goal

pub returns : goal.returns
returns c = flights_are_runs
