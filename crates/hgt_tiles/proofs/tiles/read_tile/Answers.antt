use Rattle.std.proofs.Common.{◌<◌, refl, sym, arith}
use Rattle.std.proofs.lemmas.List.Elements.{All-from_get_or}
use Rattle.terrain_model.specs.Tile.{tile_terrain}
use Rattle.hgt_tiles.proofs.TileLemmas.{square_is_tile, few_of_side, tile_is}
use Rattle.hgt_tiles.proofs.tiles.read_tile.Goals as goal

pub invariant_of-result : goal.invariant_of-result
unfolding tile_terrain
invariant_of-result c =
    let bytes = c.args.bytes.now in
    let side = c.in-Some.side in
    record {
      square = square_is_tile (tile_terrain bytes side) side c.in-Ok.samples.heights.items c.in-Some.ensures.low c.in-Some.ensures.high (c.tile_is_terrain.ensures bytes side (All-from_get_or (λ b. b < 256) bytes 0 (λ i inside. omega (arith, c.type_inv.bytes i))) (omega (arith, c.in-Some.ensures.low)) c.in-Some.ensures.high) refl refl c.in-Ok.ensures.heights;
      few_voids = few_of_side c.in-Ok.samples.voids side c.in-Ok.ensures.few_voids c.in-Some.ensures.high;
    }

pub returns-in-Ok-clause-square : goal.returns-in-Ok-clause-square
unfolding tile_terrain
returns-in-Ok-clause-square c =
    let bytes = c.args.bytes.now in
    let side = c.in-Some.side in
    square_is_tile (tile_terrain bytes side) side c.in-Ok.samples.heights.items c.in-Some.ensures.low c.in-Some.ensures.high (c.tile_is_terrain.ensures bytes side (All-from_get_or (λ b. b < 256) bytes 0 (λ i inside. omega (arith, c.type_inv.bytes i))) (omega (arith, c.in-Some.ensures.low)) c.in-Some.ensures.high) refl refl c.in-Ok.ensures.heights

pub returns-in-Ok-clause-tile : goal.returns-in-Ok-clause-tile
returns-in-Ok-clause-tile c =
    tile_is c.args.corner c.args.bytes.now c.in-Some.side c.in-Ok.samples.heights.items c.in-Ok.samples.voids (sym c.in-Some.ensures.value) c.in-Ok.ensures.heights c.in-Ok.ensures.voids
