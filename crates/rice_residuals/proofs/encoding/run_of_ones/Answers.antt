use Rattle.rice_residuals.proofs.CodeWrite.{run_value, run_below}
use Rattle.rice_residuals.proofs.encoding.run_of_ones.Goals as goal

pub returns-clause-value : goal.returns-clause-value
returns-clause-value c = run_value c.args.ones c.requires

pub returns-clause-below : goal.returns-clause-below
returns-clause-below c = run_below c.args.ones _ (run_value c.args.ones c.requires)
