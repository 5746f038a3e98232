use Rattle.plan_histories.proofs.PassLaws.{no_entry_in_two}
use Rattle.plan_histories.proofs.others.no_entry_in_two.Goals as goal

pub returns : goal.returns
returns c = no_entry_in_two
