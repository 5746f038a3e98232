use Rattle.std.proofs.Common.{◌≡◌, ℕ, ℤ, ◌<◌, take, fold, pos, get_or, FitsSigned}
use Rattle.std.specs.Int.{w16, int_min, int_max}
use Rattle.height_pyramid.proofs.extremes.extremes_of.Given as goal

abbrev pub invariant-loop-height : goal.invariant-loop-height
invariant-loop-height l = record {
  least : l.least ≡ fold int_min (get_or l.heights 0 (pos 0)) (take l.height-index l.heights);
  most : l.most ≡ fold int_max (get_or l.heights 0 (pos 0)) (take l.height-index l.heights);
  short : (k : ℕ) (d : ℤ) → k < l.height-index → FitsSigned w16 (get_or l.heights k d);
}
