use Rattle.plan_histories.proofs.PlaceLaws.{moves_with_one_more}
use Rattle.plan_histories.proofs.room.moves_with_one_more.Goals as goal

pub returns : goal.returns
returns c = moves_with_one_more
