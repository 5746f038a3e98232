use Rattle.std.proofs.Common.{of_z, to_z, w32, arith, rules}
use Rattle.std.proofs.lemmas.Int.{to_z-of_z}
use Rattle.rice_residuals.proofs.ResidualList.{all_in_range_set, all_zero_set}
use Rattle.rice_residuals.proofs.residuals.Residuals.push.Goals as goal

pub invariant_of-self : goal.invariant_of-self
invariant_of-self c = record {
  counted = search rules;
  in_range = all_in_range_set c.args.self.now.values c.from-place.result c.args.value (to_z w32 (of_z w32 c.args.value)) (to_z-of_z w32 c.args.value c.ranges.value) c.requires.in_range c.args.self.now.in_range;
  unused = all_zero_set c.args.self.now.values c.args.self.now.count c.from-place.result (to_z w32 (of_z w32 c.args.value)) (omega arith) c.args.self.now.unused;
}
