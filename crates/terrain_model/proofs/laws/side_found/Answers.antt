use Rattle.terrain_model.proofs.Sides as lemmas
use Rattle.terrain_model.proofs.laws.side_found.Goals as goal

pub returns : goal.returns
returns c = lemmas.side_found
