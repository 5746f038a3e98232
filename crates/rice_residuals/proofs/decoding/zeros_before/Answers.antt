use Rattle.std.proofs.Common.{◌-◌, refl}
use Rattle.std.specs.Int.Count.{count_leading_zeros}
use Rattle.rice_residuals.proofs.EndRead.{zeros_first}
use Rattle.rice_residuals.proofs.decoding.zeros_before.Goals as goal

pub overflow_sub-result-2 : goal.overflow_sub-result-2
overflow_sub-result-2 c =
    (zeros_first c.args.bits c.args.count (count_leading_zeros 32 c.args.bits - (32 - c.args.count)) c.requires.some c.requires.below c.requires.count refl).2

pub returns-clause-within : goal.returns-clause-within
returns-clause-within c =
    (zeros_first c.args.bits c.args.count (count_leading_zeros 32 c.args.bits - (32 - c.args.count)) c.requires.some c.requires.below c.requires.count refl).0

pub returns-clause-zeros : goal.returns-clause-zeros
returns-clause-zeros c =
    (zeros_first c.args.bits c.args.count (count_leading_zeros 32 c.args.bits - (32 - c.args.count)) c.requires.some c.requires.below c.requires.count refl).1
