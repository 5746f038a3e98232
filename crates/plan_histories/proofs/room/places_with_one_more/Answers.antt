use Rattle.plan_histories.proofs.PlaceLaws.{places_with_one_more}
use Rattle.plan_histories.proofs.room.places_with_one_more.Goals as goal

pub returns : goal.returns
returns c = places_with_one_more
