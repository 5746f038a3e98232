use Rattle.torus_grid.proofs.PlaceLaws.{places_in_tiles}
use Rattle.torus_grid.proofs.laws.places_in_tiles_are_places.Goals as goal

pub returns : goal.returns
returns c = places_in_tiles
