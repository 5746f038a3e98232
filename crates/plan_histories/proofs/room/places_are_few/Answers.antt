use Rattle.plan_histories.proofs.PlaceLaws.{places_are_few}
use Rattle.plan_histories.proofs.room.places_are_few.Goals as goal

pub returns : goal.returns
returns c = places_are_few
