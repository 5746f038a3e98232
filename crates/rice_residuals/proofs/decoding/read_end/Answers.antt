use Rattle.std.proofs.Common.{ℕ, ◌-◌, ◌/◌, ◌%◌, ap, ap₂, arith}
use Rattle.rice_residuals.proofs.EndRead.{excess, padding_only}
use Rattle.rice_residuals.proofs.decoding.read_end.Goals as goal

pub returns-then-bytes-ne0-clause-fault : goal.returns-then-bytes-ne0-clause-fault
returns-then-bytes-ne0-clause-fault c =
    excess c.args.reader.now c.take.new.self ((8 - c.place-place.result % 8) % 8) c.in-Some.bits ((c.end-end.result - c.place.result) / 8) c.requires.whole (ap (λ (n : ℕ). (8 - n % 8) % 8) c.place-place.ensures) c.if-bits-ne0.false c.in-Some.ensures.bits c.in-Some.ensures.place (ap₂ (λ (m : ℕ) (n : ℕ). (m - n) / 8) c.end-end.ensures c.place.ensures) (omega arith)

pub returns-clause-ok : goal.returns-clause-ok
returns-clause-ok c =
    padding_only c.args.reader.now c.take.new.self ((8 - c.place-place.result % 8) % 8) c.in-Some.bits ((c.end-end.result - c.place.result) / 8) c.requires.whole (ap (λ (n : ℕ). (8 - n % 8) % 8) c.place-place.ensures) c.if-bits-ne0.false c.in-Some.ensures.bits c.in-Some.ensures.place (ap₂ (λ (m : ℕ) (n : ℕ). (m - n) / 8) c.end-end.ensures c.place.ensures) c.if-bytes-ne0.false
