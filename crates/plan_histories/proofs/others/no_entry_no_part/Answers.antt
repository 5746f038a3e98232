use Rattle.plan_histories.proofs.PassLaws.{no_entry_no_part}
use Rattle.plan_histories.proofs.others.no_entry_no_part.Goals as goal

pub returns : goal.returns
returns c = no_entry_no_part
