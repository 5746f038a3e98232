use Rattle.plan_histories.proofs.PlaceLaws.{moves_of_two}
use Rattle.plan_histories.proofs.room.moves_of_two.Goals as goal

pub returns : goal.returns
returns c = moves_of_two
