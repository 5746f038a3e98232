use Rattle.rice_residuals.proofs.Writing.{written_none}
use Rattle.rice_residuals.proofs.writer.BitWriter.new.Goals as goal

pub returns : goal.returns
returns c = written_none c.new.result.items c.new.ensures.items
