-- The corners are those of the definition, and the clauses follow from it.
use Rattle.std.proofs.Common.{◌^◌, ◌∙◌, ap, sym, arith}
use Rattle.std.proofs.lemmas.Int.{ints}
use Rattle.clip_regions.specs.Regions.{spelled, IsWithin}
use Rattle.clip_regions.proofs.Cells.{same_corners}
use Rattle.clip_regions.proofs.Sizes.{doubled, double_is, double_cells, double_within, double_even}
use Rattle.clip_regions.proofs.region.Region.double.Goals as goal

pub returns-clause-value : goal.returns-clause-value
unfolding doubled
returns-clause-value c =
    c.spelled.ensures.value ∙ ap spelled (same_corners _ (doubled c.args.self) (omega (arith, ints)) (omega (arith, ints)) (omega (arith, ints)) (omega (arith, ints))) ∙ sym (double_is c.args.self)

pub returns-clause-cells : goal.returns-clause-cells
returns-clause-cells c = double_cells c.args.self c.spelled.result (returns-clause-value c)

pub returns-clause-within : goal.returns-clause-within
returns-clause-within c =
    double_within (2 ^ 28) (2 ^ 29) c.args.self c.spelled.result (omega arith) (omega arith) (returns-clause-value c) c.requires.placed

pub returns-clause-placed : goal.returns-clause-placed
returns-clause-placed c = λ (small : IsWithin (2 ^ 27) c.args.self).
    double_within (2 ^ 27) (2 ^ 28) c.args.self c.spelled.result (omega arith) (omega arith) (returns-clause-value c) small

pub returns-clause-even : goal.returns-clause-even
returns-clause-even c = double_even c.args.self c.spelled.result (returns-clause-value c)
