use Rattle.std.proofs.Common.{◌≡◌, ℕ, ◌+◌, ◌-◌, ◌*◌, ℤ, pos, ◌+ℤ◌, List, map, ap, ◌∙◌, arith}
use Rattle.std.specs.List.{range_with_len}
use mathlib.Core.Path.{ap₂}
use Rattle.clip_regions.specs.FloorDivision.{floor_rem}
use Rattle.torus_grid.specs.Places.{tile_height}
use Rattle.torus_grid.proofs.TileRows.{row_is}
use Rattle.torus_grid.proofs.tile.Tile.row.Goals as goal
use Rattle.clip_regions.proofs.Numbers.{read_back}

pub returns : goal.returns
returns c =
    let index : c.index_of-first.result ≡ 8 * floor_rem c.args.j 8 + floor_rem c.args.i 8 = c.index_of-first.ensures.value ∙ ap₂ (λ (b a : ℤ). 8 * floor_rem b 8 + floor_rem a 8) (read_back c.args.j c.ranges.j) (read_back c.args.i c.ranges.i) in
    let place : c.place_of.result ≡ floor_rem c.args.i 8 = c.place_of.ensures.value ∙ ap (λ (a : ℤ). floor_rem a 8) (read_back c.args.i c.ranges.i) in
    row_is c.self.inside.heights c.args.i c.args.j c.index_of-first.result (c.index_of-first.result + 8 - c.place_of.result - c.index_of-first.result) c.self.told index (omega (arith, place, c.place_of.ensures.inside)) ∙ ap (λ (hs : List ℤ). map (λ (n : ℕ). tile_height hs (c.args.i +ℤ pos n) c.args.j) (range_with_len 0 (8 - floor_rem c.args.i 8))) c.self.view_is
