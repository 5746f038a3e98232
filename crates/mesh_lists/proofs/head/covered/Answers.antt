use Rattle.std.proofs.Common.{◌≡◌, ◌^◌, ◌≤◌, ◌-◌, length, arith, pos, rules, ap, ◌∙◌}
use Rattle.std.proofs.lemmas.Int.{ints, to_z-of_z}
use Rattle.std.proofs.Math.Pow.{pow_mono}
use mir.Syntax.{w32}
use mir.Val.{SFits, of_z, to_z}
use Rattle.clip_regions.specs.declared.region.Region.{Region}
use Rattle.mesh_model.specs.Watertight.{covered}
use Rattle.mesh_lists.specs.Lists.{near_region}
use Rattle.mesh_lists.proofs.Heads.{near_told, covered_is}
use Rattle.mesh_lists.proofs.head.covered.Goals as goal

pub scaled-requires-clause-small : goal.scaled-requires-clause-small
scaled-requires-clause-small c =
    let fits : SFits w32 c.spacing.result = search rules in
    let most : 2 ^ (length c.args.regions.now - 1) ≤ 2 ^ 11 = pow_mono {i = length c.args.regions.now - 1} {j = 11} (omega (arith, c.requires.few)) in
    let value : c.spacing.result ≡ pos (2 ^ (length c.args.regions.now - 1)) = c.spacing.ensures.value in
    rw (to_z-of_z w32 c.spacing.result fits) (omega (arith, ints, most, value))

pub returns : goal.returns
returns c =
    let regions = c.args.regions.now in
    let fits : SFits w32 c.spacing.result = search rules in
    let same : to_z w32 (of_z w32 c.spacing.result) ≡ pos (2 ^ (length regions - 1)) = to_z-of_z w32 c.spacing.result fits ∙ c.spacing.ensures.value in
    let d : Region = record { x0 = pos 0; y0 = pos 0; x1 = pos 0; y1 = pos 0 } in
    record {
      near = near_told (covered regions) c.scaled.result
          (c.scaled.ensures.value ∙ ap near_region (covered_is regions (to_z w32 (of_z w32 c.spacing.result)) d c.requires.some same));
    }
