use Rattle.plan_histories.proofs.PlaceLaws.{no_entry_no_place}
use Rattle.plan_histories.proofs.room.no_entry_no_place.Goals as goal

pub returns : goal.returns
returns c = no_entry_no_place
