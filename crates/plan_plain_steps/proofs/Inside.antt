-- Regions that lie in a window that is near and short.
use Rattle.std.proofs.Common.{◌≡◌, ◌^◌, Option, Some, None, IfSome, subst, sym, inl, inr, arith}
use Rattle.std.proofs.lemmas.Int.{ints}
use Rattle.clip_regions.specs.declared.region.Region.{Region}
use Rattle.clip_regions.specs.Regions.{IsWithin}
use Rattle.plan_model.specs.Sound.{IsInside, IsFilledPart, IsPartOf}
use Rattle.plan_plain_pieces.specs.Placed.{IsShort}
use Rattle.plan_sound.proofs.Placed.{inside_near}

pub inside_short : (window r : Region) → IsShort window → IsInside window r → IsShort r
inside_short window r w i = record {
  columns = omega (arith, ints, w.columns, i.west, i.east);
  rows = omega (arith, ints, w.rows, i.north, i.south);
}

-- a strip that may be there is near where its window is
pub strip_within : (window : Region) (strip : Option Region) → IsWithin (2 ^ 24) window → IfSome strip (IsInside window) → IfSome strip (IsWithin (2 ^ 24))
strip_within window None w i = tt
strip_within window (Some strip) w i = inside_near (2 ^ 24) window strip w i

pub strip_short : (window : Region) (strip : Option Region) → IsShort window → IfSome strip (IsInside window) → IfSome strip IsShort
strip_short window None w i = tt
strip_short window (Some strip) w i = inside_short window strip w i

plain_part : (window r : Region) → IsPartOf window r → IsFilledPart window r
plain_part window r (inl e) = inl e
plain_part window r (inr h) = inr h.inside

-- an even part of a window, of regions that are equal to these
pub part_of : (window window' filled filled' : Region) → window ≡ window' → filled ≡ filled' → IsPartOf window' filled' → IsFilledPart window filled
part_of window window' filled filled' e g part =
    subst (λ (w : Region). IsFilledPart w filled) (sym e) (subst (λ (f : Region). IsFilledPart window' f) (sym g) (plain_part window' filled' part))
