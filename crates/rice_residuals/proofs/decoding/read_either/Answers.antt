use Rattle.std.proofs.Common.{◌≡◌, ℕ, ◌<◌, ◌∙◌, refl, arith, ap}
use Rattle.rice_residuals.specs.Bits.{low_bits}
use Rattle.rice_residuals.specs.Faults.{form}
use Rattle.rice_residuals.proofs.LowBits.{length-low_bits}
use Rattle.rice_residuals.proofs.CodeRead.{cut_in_ones, cut_in_long, cut_in_short, long_of_small, long_code, short_code, too_wide, end_after, end_same}
use Rattle.rice_residuals.proofs.decoding.read_either.Goals as goal

pub returns-in_default-clause-fault : goal.returns-in_default-clause-fault
returns-in_default-clause-fault c =
    let old = c.args.reader.now in
    let none = c.in_default.ensures {u = tt} in
    (c.end.ensures ∙ end_same old old c.take_ones.new.self none.unchanged refl, cut_in_ones c.args.parameter old.left none.none none.few)

pub returns-in_default-take-clause-fault : goal.returns-in_default-take-clause-fault
returns-in_default-take-clause-fault c =
    let old = c.args.reader.now in
    let mid = c.take_ones.new.self in
    let none = c.in_default-take.ensures {u = tt} in
    let form_is : old.left ≡ form 32 mid.left = c.in-Some.ensures.bits ∙ ap (λ (n : ℕ). form n mid.left) c.if-ones-eq-LONG_ONES.true in
    (c.end-in_default-take.ensures ∙ end_same old mid c.take.new.self none.unchanged c.in-Some.ensures.end, cut_in_long c.args.parameter old.left mid.left form_is (none.none.0 refl))

pub returns-then-long-parameter-lt-LONG_ONES-clause-fault : goal.returns-then-long-parameter-lt-LONG_ONES-clause-fault
returns-then-long-parameter-lt-LONG_ONES-clause-fault c =
    let old = c.args.reader.now in
    let mid = c.take_ones.new.self in
    let form_is : old.left ≡ form 32 mid.left = c.in-Some.ensures.bits ∙ ap (λ (n : ℕ). form n mid.left) c.if-ones-eq-LONG_ONES.true in
    (c.place-bit.ensures, long_of_small c.args.parameter c.in-Some-take.long old.left mid.left c.take.new.self.left form_is c.in-Some-take.ensures.bits c.in-Some-take.ensures.below c.if-long-parameter-lt-LONG_ONES.true)

pub returns-then-ones-eq-LONG_ONES-clause-code : goal.returns-then-ones-eq-LONG_ONES-clause-code
returns-then-ones-eq-LONG_ONES-clause-code c =
    let old = c.args.reader.now in
    let mid = c.take_ones.new.self in
    let form_is : old.left ≡ form 32 mid.left = c.in-Some.ensures.bits ∙ ap (λ (n : ℕ). form n mid.left) c.if-ones-eq-LONG_ONES.true in
    long_code c.args.parameter c.in-Some-take.long old.left mid.left c.take.new.self.left form_is c.in-Some-take.ensures.bits c.if-long-parameter-lt-LONG_ONES.false

pub returns-then-ones-eq-LONG_ONES-clause-end : goal.returns-then-ones-eq-LONG_ONES-clause-end
returns-then-ones-eq-LONG_ONES-clause-end c =
    end_after c.args.reader.now c.take_ones.new.self c.take.new.self (low_bits 18 c.in-Some-take.long) 18 (length-low_bits 18 c.in-Some-take.long) c.in-Some-take.ensures.bits c.in-Some-take.ensures.place c.in-Some.ensures.end

pub returns-in_default-take-2-clause-fault : goal.returns-in_default-take-2-clause-fault
returns-in_default-take-2-clause-fault c =
    let old = c.args.reader.now in
    let mid = c.take_ones.new.self in
    let none = c.in_default-take-2.ensures {u = tt} in
    let most = c.in-Some.ensures.ones in
    let few : c.in-Some.ones < 32 = omega arith in
    (c.end-in_default-take-2.ensures ∙ end_same old mid c.take-2.new.self none.unchanged c.in-Some.ensures.end, cut_in_short c.args.parameter c.in-Some.ones old.left mid.left few c.in-Some.ensures.bits (none.none.0 refl))

pub returns-then-short-ge-FOLDED_LIMIT-clause-fault : goal.returns-then-short-ge-FOLDED_LIMIT-clause-fault
returns-then-short-ge-FOLDED_LIMIT-clause-fault c =
    let old = c.args.reader.now in
    let mid = c.take_ones.new.self in
    let most = c.in-Some.ensures.ones in
    let few : c.in-Some.ones < 32 = omega arith in
    (c.place-bit.ensures, too_wide c.args.parameter c.in-Some.ones c.in-Some-take-2.low c.joined-short.result old.left mid.left c.take-2.new.self.left few c.in-Some-take-2.ensures.below c.joined-short.ensures (omega arith) c.in-Some.ensures.bits c.in-Some-take-2.ensures.bits)

pub returns-clause-code : goal.returns-clause-code
returns-clause-code c =
    let most = c.in-Some.ensures.ones in
    let few : c.in-Some.ones < 32 = omega arith in
    short_code c.args.parameter c.in-Some.ones c.in-Some-take-2.low c.joined-short.result c.args.reader.now.left c.take_ones.new.self.left c.take-2.new.self.left few c.in-Some-take-2.ensures.below c.joined-short.ensures c.in-Some.ensures.bits c.in-Some-take-2.ensures.bits

pub returns-clause-end : goal.returns-clause-end
returns-clause-end c =
    end_after c.args.reader.now c.take_ones.new.self c.take-2.new.self (low_bits c.args.parameter c.in-Some-take-2.low) c.args.parameter (length-low_bits c.args.parameter c.in-Some-take-2.low) c.in-Some-take-2.ensures.bits c.in-Some-take-2.ensures.place c.in-Some.ensures.end
