-- Regions, tiles and pieces of equal parts are equal.
use Rattle.std.proofs.Common.{◌≡◌, ℕ, ℤ, ap, ◌∙◌}
use mathlib.Core.Path.{ap₂}
use Rattle.clip_regions.specs.declared.region.Region.{Region}
use Rattle.clip_regions.specs.FloorDivision.{floor_rem}
use Rattle.plan_model.specs.Blocks.{tiles_per_side, tile_of}
use Rattle.plan_model.specs.declared.tiles.TileId.{TileId}
use Rattle.plan_model.specs.declared.tiles.Piece.{Piece}

abbrev pub tile : ℕ → ℕ → TileId
tile tx ty = record { tx = tx; ty = ty }

pub tile_is : (k tx ty : ℕ) (bx by : ℤ) → tx ≡ floor_rem bx (tiles_per_side k) → ty ≡ floor_rem by (tiles_per_side k) → tile tx ty ≡ tile_of k bx by
unfolding tile_of
tile_is k tx ty bx by e f = ap₂ tile e f

abbrev pub piece : ℤ → ℤ → Region → Piece
piece bx by cells = record { bx = bx; by = by; cells = cells }

pub same_pieces : (p q : Piece) → p.bx ≡ q.bx → p.by ≡ q.by → p.cells ≡ q.cells → p ≡ q
same_pieces p q a b c =
    ap (λ (v : ℤ). piece v p.by p.cells) a ∙ ap (λ (v : ℤ). piece q.bx v p.cells) b ∙ ap (λ (v : Region). piece q.bx q.by v) c
