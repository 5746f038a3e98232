use Rattle.terrain_model.proofs.Heights as lemmas
use Rattle.terrain_model.proofs.laws.coarser_level.Goals as goal

pub returns : goal.returns
returns c = lemmas.level_doubled
