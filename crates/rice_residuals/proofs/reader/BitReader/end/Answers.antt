use Rattle.std.proofs.Common.{arith}
use Rattle.rice_residuals.proofs.Readings.{reading_end}
use Rattle.rice_residuals.proofs.reader.BitReader.end.Goals as goal

pub returns : goal.returns
returns c = omega (arith, reading_end c.self.inside.bytes.now c.self.inside.register c.args.self.now c.self.invariant c.self.view_is)
