use Rattle.std.proofs.Common.{◌≡◌, ◌∙◌, ◌+◌, ◌-◌, ◌*◌, ℤ, List, false, ap, sym, subst, slice_range, arith}
use Rattle.terrain_model.specs.Mosaic.{left_of, top_of, is_among}
use Rattle.hgt_tiles.specs.TileView.{placed}
use Rattle.mosaic.specs.Painting.{IsPainted, with_part}
use Rattle.mosaic.proofs.Parts.{tile_painted, tile_missed, missed_before, missed_after}
use Rattle.mosaic.proofs.painting.paint_tile.Goals as goal
use Rattle.mosaic.proofs.painting.paint_tile.Goals.{else-top-y-via-then-top-y+else-y-top, else-top-y-via-else-top-y}

pub returns-then-y-top-clause-row : goal.returns-then-y-top-clause-row
returns-then-y-top-clause-row c =
    let extent = c.args.extent.now in
    let tile = c.args.tile.now in
    let row = c.args.row.now in
    let y = c.args.y in
    let part = c.row.result.now in
    let top : c.top_of-top.result ≡ top_of extent (placed tile) = c.top_of-top.ensures in
    let inside : part ≡ slice_range tile.terrain.table ((y - top_of extent (placed tile)) * tile.terrain.width) ((y - top_of extent (placed tile) + 1) * tile.terrain.width) =
    c.row.ensures.value ∙ ap (λ t. slice_range tile.terrain.table ((y - t) * tile.terrain.width) ((y - t + 1) * tile.terrain.width)) top in
    let painted : IsPainted extent y tile row (with_part row (left_of extent (placed tile)) part) =
    tile_painted extent tile y row part c.requires.placed (omega (arith, top, c.if-top-y.true)) (omega (arith, top, c.if-y-top.true, c.side.ensures.value)) (omega (arith, c.holds_columns_of.ensures, c.requires.width)) c.row.ensures.length inside in
    subst (λ (r : List ℤ). IsPainted extent y tile row r) (sym (c.write_part.ensures.row ∙ ap (λ n. with_part row n part) c.left_of.ensures)) painted

pub returns-else-top-y-clause-row : goal.returns-else-top-y-clause-row
returns-else-top-y-clause-row c =
    let extent = c.args.extent.now in
    let tile = c.args.tile.now in
    let out : is_among (top_of extent (placed tile)) extent.side c.args.y ≡ false =
    elim c.else-top-y.branch [
      | else-top-y-via-then-top-y+else-y-top w ↦ missed_after (top_of extent (placed tile)) extent.side c.args.y (omega (arith, c.top_of-top.ensures, w.if-top-y.true, w.if-y-top.false, w.side.ensures.value))
      | else-top-y-via-else-top-y w ↦ missed_before (top_of extent (placed tile)) extent.side c.args.y (omega (arith, c.top_of-top.ensures, w.if-top-y.false))
    ] in
    tile_missed extent tile c.args.y c.args.row.now out
