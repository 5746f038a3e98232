use Rattle.std.proofs.Common.{rules}
use Rattle.std.specs.Int.{w32}
use mir.Val.{SFits}
use Rattle.clip_book.specs.Tiles.{grid_on}
use Rattle.clip_book.proofs.SeenRows.{block_place, block_row, place_read, corner_read, seen_patch}
use Rattle.clip_book.proofs.patches.block_patch.Goals as goal

pub corner-requires : goal.corner-requires
corner-requires c =
    let f : SFits w32 c.args.piece.bx = search rules in
    let f0 : SFits w32 c.args.piece.cells.x0 = search rules in
    let f1 : SFits w32 c.args.piece.cells.x1 = search rules in
    place_read c.args.piece.bx f (block_place c.args.piece f0 f1 c.requires.block)

pub corner-requires-2 : goal.corner-requires-2
corner-requires-2 c =
    let f : SFits w32 c.args.piece.by = search rules in
    let f0 : SFits w32 c.args.piece.cells.y0 = search rules in
    let f1 : SFits w32 c.args.piece.cells.y1 = search rules in
    place_read c.args.piece.by f (block_row c.args.piece f0 f1 c.requires.block)

pub returns : goal.returns
returns c =
    let f : SFits w32 c.args.piece.bx = search rules in
    let g : SFits w32 c.args.piece.by = search rules in
    seen_patch (grid_on c.args.tiles.now.grids c.args.level) c.args.region c.args.piece c.patch.result _ _ (corner_read c.args.piece.bx c.corner.result f c.corner.type_inv c.corner.ensures.value) (corner_read c.args.piece.by c.corner-2.result g c.corner-2.type_inv c.corner-2.ensures.value) c.patch.ensures.column c.patch.ensures.row c.patch.ensures.heights
