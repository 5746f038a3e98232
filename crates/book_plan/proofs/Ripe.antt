-- Whether a level is ripe, by the first of its pieces that are left.
use Rattle.std.proofs.Common.{◌≡◌, ◌==◌, ◌&&◌, false, List, [], ◌∷◌, length, Option, Some, None, is_some, refl, sym}
use Rattle.std.proofs.Math.Dec.{eqb-suc-zero}
use Rattle.clip_regions.specs.declared.region.Region.{Region}
use Rattle.plan_model.specs.declared.tiles.Piece.{Piece}
use Rattle.plan_model.specs.Strips.{first_of}

pub ripe_none : (strip : Option Region) (left : List Piece) → None ≡ first_of left → is_some strip ≡ (is_some strip && (length left == 0))
ripe_none None [] e = refl
ripe_none (Some strip) [] e = refl
ripe_none strip (piece ∷ left) e = absurd (cc)

pub unripe_some : (strip : Option Region) (left : List Piece) (piece : Piece) → Some piece ≡ first_of left → false ≡ (is_some strip && (length left == 0))
unripe_some strip [] piece e = absurd (cc)
unripe_some None (first ∷ left) piece e = refl
unripe_some (Some strip) (first ∷ left) piece e = sym (eqb-suc-zero (length left))
