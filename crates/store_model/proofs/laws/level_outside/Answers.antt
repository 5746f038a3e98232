use Rattle.store_model.proofs.Outside as lemmas
use Rattle.store_model.proofs.laws.level_outside.Goals as goal

pub returns : goal.returns
returns c = lemmas.level_outside
