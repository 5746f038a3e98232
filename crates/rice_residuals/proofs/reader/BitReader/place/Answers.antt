use Rattle.std.proofs.Common.{arith, ap}
use Rattle.rice_residuals.specs.Reading.{Reading}
use Rattle.rice_residuals.proofs.Readings.{reading_place}
use Rattle.rice_residuals.proofs.reader.BitReader.place.Goals as goal

pub returns : goal.returns
returns c =
    let r = c.self.inside.register in
    omega (arith, reading_place c.self.inside.bytes.now r, ap (λ (x : Reading). x.place) c.self.view_is)
