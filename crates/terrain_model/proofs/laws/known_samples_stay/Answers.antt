use Rattle.terrain_model.proofs.Known as lemmas
use Rattle.terrain_model.proofs.laws.known_samples_stay.Goals as goal

pub returns : goal.returns
returns c = lemmas.known_stays
