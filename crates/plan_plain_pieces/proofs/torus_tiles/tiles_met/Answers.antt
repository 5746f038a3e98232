use Rattle.std.proofs.Common.{◌≡◌, ℕ, List, filter, refl, ap, ◌∙◌}
use Rattle.std.specs.List.{list_any}
use Rattle.std.proofs.lemmas.Result.{IfOk-weaker}
use Rattle.clip_regions.specs.declared.region.Region.{Region}
use Rattle.plan_model.specs.Blocks.{tile_of, same_tile}
use Rattle.plan_model.specs.Strips.{pieces}
use Rattle.plan_model.specs.Tiles.{tiles, meets_tile, tiles_met}
use Rattle.plan_model.specs.declared.tiles.TileId.{TileId}
use Rattle.plan_model.specs.declared.tiles.Piece.{Piece}
use Rattle.plan_plain_pieces.proofs.torus_tiles.tiles_met.Goals as goal

abbrev kept : ℕ → List Piece → List TileId → List TileId
kept k some all = filter (λ (t : TileId). list_any (λ (p : Piece). same_tile (tile_of k p.bx p.by) t) some) all

met_is : (k : ℕ) (r : Region) → kept k (pieces r) (tiles k) ≡ tiles_met k r
unfolding tiles_met meets_tile
met_is k r = refl

pub returns : goal.returns
returns c = record {
  value = IfOk-weaker c.tiles_of.result _ (λ v. v.items ≡ tiles_met c.args.k c.args.region)
      (λ v e. e ∙ ap (λ (some : List Piece). kept c.args.k some c.as_slice.result.now) (c.as_slice-2.ensures.value ∙ c.in_ok-some.ensures.value) ∙ ap (λ (all : List TileId). kept c.args.k (pieces c.args.region) all) (c.as_slice.ensures.value ∙ c.in_ok-all.ensures.value) ∙ met_is c.args.k c.args.region)
      c.tiles_of.ensures.value;
}
