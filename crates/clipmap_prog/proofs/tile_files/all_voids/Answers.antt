use Rattle.std.proofs.Common.{◌≡◌, ℕ, ◌+◌, ap, sym, sum_by, take, get_or, arith}
use Rattle.std.proofs.lemmas.List.Sums.{fold_more}
use Rattle.hgt_tiles.specs.TileView.{TileView}
use Rattle.clipmap_prog.proofs.tile_files.all_voids.Goals as goal

pub loop-tile-preserved : goal.loop-tile-preserved
loop-tile-preserved c =
    let tiles = c.args.tiles.now in
    let i = c.loop-tile.tile-index in
    let count : TileView → ℕ = λ tile. tile.voids in
    let more : sum_by count (take (i + 1) tiles) ≡ sum_by count (take i tiles) + (get_or tiles i c.tile-item.result).voids = fold_more (λ a (t : TileView). a + t.voids) 0 tiles i c.tile-item.result c.loop-tile-test.true in
    let here : (get_or tiles i c.tile-item.result).voids ≡ c.tile-item.result.voids = ap count (sym c.tile-item.is) in
    record {
      value = omega (arith, more, here, c.loop-tile.invariant.value, c.voids-voids.ensures.value);
      few = omega (arith, c.loop-tile.invariant.few, c.voids-voids.ensures.few);
    }
