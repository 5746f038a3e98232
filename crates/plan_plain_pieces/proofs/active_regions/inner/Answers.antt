-- The margin is small, so the doubled region stays placed.
use Rattle.std.proofs.Common.{◌≡◌, pos, ◌^◌, ap, ◌∙◌, subst, sym, arith}
use Rattle.std.proofs.lemmas.Int.{ints}
use Rattle.clip_regions.specs.declared.region.Region.{Region}
use Rattle.clip_regions.specs.Regions.{erode, double, IsWithin}
use Rattle.plan_model.specs.Actives.{inner}
use Rattle.plan_model.specs.Window.{margin}
use Rattle.plan_plain_pieces.proofs.Drawn.{erode_within}
use Rattle.plan_plain_pieces.proofs.active_regions.inner.Goals as goal
use Rattle.clip_regions.proofs.Numbers.{read_back}

eroded : (c : goal.After-double) → c.erode.result ≡ erode c.args.coarser (pos (margin c.args.k))
eroded c =
    c.erode.ensures.value ∙ ap (erode c.args.coarser) (read_back c.margin.result (record { sfits = c.margin.type_inv }) ∙ c.margin.ensures.value)

wider : (r : Region) → IsWithin (2 ^ 24) r → IsWithin (2 ^ 27) r
wider r w = record {
  x0_low = omega (arith, ints);
  x0_high = omega (arith, ints);
  y0_low = omega (arith, ints);
  y0_high = omega (arith, ints);
  x1_low = omega (arith, ints);
  x1_high = omega (arith, ints);
  y1_low = omega (arith, ints);
  y1_high = omega (arith, ints);
}

pub returns-clause-value : goal.returns-clause-value
unfolding inner
returns-clause-value c = c.double.ensures.value ∙ ap double (eroded c)

pub returns-clause-placed : goal.returns-clause-placed
returns-clause-placed c =
    c.double.ensures.placed (wider c.erode.result (subst (IsWithin (2 ^ 24)) (sym (eroded c)) (erode_within (2 ^ 24) c.args.coarser (margin c.args.k) (omega arith) c.requires.coarser)))
