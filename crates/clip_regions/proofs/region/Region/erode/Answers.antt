-- The corners are those of the definition, and the clauses follow from it.
use Rattle.std.proofs.Common.{◌^◌, ◌∙◌, ap, sym, arith}
use Rattle.std.proofs.lemmas.Int.{ints}
use Rattle.clip_regions.specs.Regions.{spelled}
use Rattle.clip_regions.proofs.Cells.{same_corners}
use Rattle.clip_regions.proofs.Sizes.{eroded, erode_is, erode_cells, erode_within, erode_in}
use Rattle.clip_regions.proofs.region.Region.erode.Goals as goal

pub returns-clause-value : goal.returns-clause-value
unfolding eroded
returns-clause-value c =
    c.spelled.ensures.value ∙ ap spelled (same_corners _ (eroded c.args.self c.args.by) (omega (arith, ints)) (omega (arith, ints)) (omega (arith, ints)) (omega (arith, ints))) ∙ sym (erode_is c.args.self c.args.by)

pub returns-clause-cells : goal.returns-clause-cells
returns-clause-cells c = erode_cells c.args.self c.args.by c.spelled.result c.requires.low (returns-clause-value c)

pub returns-clause-placed : goal.returns-clause-placed
returns-clause-placed c =
    erode_within (2 ^ 28) c.args.self c.args.by c.spelled.result (omega arith) c.requires.low (returns-clause-value c) c.requires.placed

pub returns-clause-in_self : goal.returns-clause-in_self
returns-clause-in_self c = erode_in c.args.self c.args.by c.spelled.result c.requires.low (returns-clause-value c)
