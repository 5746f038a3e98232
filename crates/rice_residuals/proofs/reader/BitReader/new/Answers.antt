use Rattle.std.proofs.Common.{refl}
use Rattle.rice_residuals.specs.Bits.{low_bits}
use Rattle.rice_residuals.specs.Reading.{reading}
use Rattle.rice_residuals.proofs.reader.BitReader.new.Goals as goal

pub returns-clause-place : goal.returns-clause-place
unfolding reading
returns-clause-place c = refl

pub returns-clause-left : goal.returns-clause-left
unfolding reading low_bits
returns-clause-left c = refl
