use Rattle.std.proofs.Common.{ap, ◌∙◌, rules}
use mathlib.Core.Path.{ap₂}
use mir.Syntax.{w32}
use mir.Val.{SFits}
use Rattle.plan_model.specs.Blocks.{tile_of, same_tile}
use Rattle.plan_model.specs.declared.tiles.TileId.{TileId}
use Rattle.plan_plain_pieces.proofs.torus_tiles.lies_in.Goals as goal
use Rattle.clip_regions.proofs.Numbers.{read_back}

pub returns : goal.returns
returns c =
    let bx : SFits w32 c.args.piece.bx = search rules in
    let by : SFits w32 c.args.piece.by = search rules in
    record { value = c.same_tile.ensures.value ∙ ap (λ (u : TileId). same_tile u c.args.t) (c.tile_of.ensures.value ∙ ap₂ (tile_of c.args.k) (read_back c.args.piece.bx bx) (read_back c.args.piece.by by)) }
