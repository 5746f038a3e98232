use Rattle.terrain_model.proofs.Known as lemmas
use Rattle.terrain_model.proofs.laws.no_void_stays.Goals as goal

pub returns : goal.returns
returns c = lemmas.known_is_known
