-- Strips and grown regions lie in their window.
use Rattle.std.proofs.Common.{◌≡◌, false, ap, sym, ◌∙◌, subst, inl, inr, arith}
use Rattle.std.specs.Option.{IfSome}
use Rattle.std.proofs.lemmas.Int.{ints, clamps}
use Rattle.std.proofs.lemmas.Bool.{or_from}
use lib.Signed.{lt_z}
use Rattle.clip_regions.specs.declared.region.Region.{Region}
use Rattle.clip_regions.specs.Regions.{is_empty}
use Rattle.plan_model.specs.Strips.{first_of, current_strip, hull}
use Rattle.plan_model.specs.Sound.{IsInside, IsFilledPart}
use Rattle.plan_plain_pieces.specs.Spans.{span}
use Rattle.plan_plain_pieces.proofs.Cases.{strips_none, strips_around, hull_right, hull_both}
use Rattle.plan_sound.proofs.Parts.{IsOrdered, not_less, inside_some, around_inside}
use Rattle.clip_regions.proofs.Cells.{empty_is_empty}

-- ---- regions that have a cell
pub not_empty : (r : Region) → IsOrdered r → is_empty r ≡ false
unfolding is_empty
not_empty r some = or_from (lt_z r.x1 r.x0) (lt_z r.y1 r.y0) (not_less r.x1 r.x0 some.x) (not_less r.y1 r.y0 some.y)

-- ---- the first strip
-- the first strip lies in the window
pub strip_inside : (filled window : Region) → IsFilledPart window filled → IsInside window window → IfSome (current_strip filled window) (IsInside window)
unfolding current_strip
strip_inside filled window (inl e) whole =
    subst (λ rs. IfSome (first_of rs) (IsInside window)) (sym (strips_none filled window (ap is_empty e ∙ empty_is_empty))) whole
strip_inside filled window (inr h) whole =
    subst (λ rs. IfSome (first_of rs) (IsInside window)) (sym (strips_around filled window (inside_some window filled h))) (around_inside filled window h)

-- ---- the least region that holds both
span_inside : (window a b : Region) → IsInside window a → IsInside window b → IsInside window (span a b)
unfolding span
span_inside window a b h g = record {
  west = omega (arith, ints, clamps);
  columns = omega (arith, ints, clamps);
  east = omega (arith, ints, clamps);
  north = omega (arith, ints, clamps);
  rows = omega (arith, ints, clamps);
  south = omega (arith, ints, clamps);
}

-- a filled region that takes a strip of its window in lies in the window
pub hull_inside : (window filled strip : Region) → IsFilledPart window filled → IsInside window strip → IsInside window (hull filled strip)
hull_inside window filled strip (inl e) g =
    subst (IsInside window) (sym (hull_right filled strip (ap is_empty e ∙ empty_is_empty))) g
hull_inside window filled strip (inr h) g =
    subst (IsInside window) (sym (hull_both filled strip (inside_some window filled h) (inside_some window strip g))) (span_inside window filled strip h g)
