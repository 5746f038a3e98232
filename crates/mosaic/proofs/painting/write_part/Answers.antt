use Rattle.std.proofs.Common.{◌≡◌, ◌+◌, ◌-◌, length, drop-drop, refl, arith}
use Rattle.mosaic.specs.Painting.{with_part}
use Rattle.mosaic.proofs.painting.write_part.Goals as goal

pub returns-clause-row : goal.returns-clause-row
unfolding with_part
returns-clause-row c =
    let k : c.args.left + length c.args.part.now - c.args.left ≡ length c.args.part.now = omega arith in
    rw (k, c.copy_from_slice.ensures.after, drop-drop) refl
