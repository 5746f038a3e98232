use Rattle.terrain_model.proofs.Heights as lemmas
use Rattle.terrain_model.proofs.laws.tile_is_terrain.Goals as goal

pub returns : goal.returns
returns c = lemmas.tile_is_terrain
