use Rattle.store_laws.proofs.Terrains.{one_terrain_is}
use Rattle.store_laws.proofs.laws.one_terrain.Goals as goal

pub returns : goal.returns
returns c = one_terrain_is c.finest_level.ensures c.one_list_of_a_word.ensures
