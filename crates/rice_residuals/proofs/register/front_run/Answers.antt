use Rattle.std.proofs.Common.{arith, sym}
use Rattle.rice_residuals.specs.Bits.{low_bits}
use Rattle.rice_residuals.proofs.ByteBits.{bits_of_bytes-nil}
use Rattle.rice_residuals.proofs.FourBytes.{front_one, front_two, front_three, front_four}
use Rattle.rice_residuals.proofs.register.front_run.Goals as goal

pub returns-in-empty-clause-bits : goal.returns-in-empty-clause-bits
unfolding low_bits
returns-in-empty-clause-bits c = sym bits_of_bytes-nil

pub returns-in-len1-clause-bits : goal.returns-in-len1-clause-bits
returns-in-len1-clause-bits c = front_one c.args.bytes.now c.from.result (omega arith) c.from.ensures

pub returns-in-len2-clause-bits : goal.returns-in-len2-clause-bits
returns-in-len2-clause-bits c =
    let below = c.type_inv.bytes in
    front_two c.args.bytes.now c.from_be_bytes.result (omega arith) (omega (arith, below 1)) (omega arith)

pub returns-in-len3-clause-bits : goal.returns-in-len3-clause-bits
returns-in-len3-clause-bits c =
    let below = c.type_inv.bytes in
    front_three c.args.bytes.now c.from_be_bytes-in-len3.result (omega arith) (omega (arith, below 1)) (omega (arith, below 2)) (omega arith)

pub returns-in-len4-up-clause-bits : goal.returns-in-len4-up-clause-bits
returns-in-len4-up-clause-bits c =
    let below = c.type_inv.bytes in
    front_four c.args.bytes.now c.from_be_bytes-in-len4-up.result (omega arith) (omega (arith, below 1)) (omega (arith, below 2)) (omega (arith, below 3)) (omega arith)
