use Rattle.rice_residuals.proofs.Readings.{mask_low}
use Rattle.rice_residuals.proofs.register.low_of.Goals as goal

pub returns-clause-value : goal.returns-clause-value
returns-clause-value c = mask_low c.args.bits c.args.count c.requires
