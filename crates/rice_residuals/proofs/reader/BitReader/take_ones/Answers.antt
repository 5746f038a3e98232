use Rattle.std.proofs.Common.{◌<◌, ◌-◌, arith, ◌∙◌}
use Rattle.rice_residuals.proofs.OnesTaken.{ones_none, ones_short, ones_long, shorter_end}
use Rattle.rice_residuals.proofs.reader.BitReader.take_ones.Goals as goal

pub returns-then-ones-register-clause-none : goal.returns-then-ones-register-clause-none
returns-then-ones-register-clause-none c =
    let r = c.ready-register in
    let ones = c.ones_of-ones in
    (ones_none c.self.inside.bytes.now r.result c.args.self.now ones.result (r.ensures.same ∙ c.self.view_is) ones.ensures.run c.if-ones-register.true c.if-ones-lt-LONG_ONES.true r.ensures.enough).0

pub returns-then-ones-register-clause-few : goal.returns-then-ones-register-clause-few
returns-then-ones-register-clause-few c =
    let r = c.ready-register in
    let ones = c.ones_of-ones in
    (ones_none c.self.inside.bytes.now r.result c.args.self.now ones.result (r.ensures.same ∙ c.self.view_is) ones.ensures.run c.if-ones-register.true c.if-ones-lt-LONG_ONES.true r.ensures.enough).1

pub returns-then-ones-lt-LONG_ONES-clause-bits : goal.returns-then-ones-lt-LONG_ONES-clause-bits
returns-then-ones-lt-LONG_ONES-clause-bits c =
    let r = c.ready-register in
    let ones = c.ones_of-ones in
    let within = ones.ensures.held in
    let inside : ones.result < r.result.held = omega arith in
    ones_short c.self.inside.bytes.now r.result c.args.self.now ones.result (r.ensures.same ∙ c.self.view_is) ones.ensures.run c.if-ones-lt-LONG_ONES.true (ones.ensures.zero c.if-ones-lt-LONG_ONES.true inside)

pub returns-then-ones-lt-LONG_ONES-clause-end : goal.returns-then-ones-lt-LONG_ONES-clause-end
returns-then-ones-lt-LONG_ONES-clause-end c =
    let r = c.ready-register in
    shorter_end c.self.inside.bytes.now r.result c.args.self.now (r.result.held - c.ones_of-ones.result - 1) r.ensures.sound (r.ensures.same ∙ c.self.view_is) (omega arith)

pub returns-clause-bits : goal.returns-clause-bits
returns-clause-bits c =
    let r = c.ready-register in
    let ones = c.ones_of-ones in
    let few = ones.ensures.few in
    ones_long c.self.inside.bytes.now r.result c.args.self.now ones.result (r.ensures.same ∙ c.self.view_is) ones.ensures.run (omega arith)

pub returns-clause-end : goal.returns-clause-end
returns-clause-end c =
    let r = c.ready-register in
    shorter_end c.self.inside.bytes.now r.result c.args.self.now (r.result.held - 32) r.ensures.sound (r.ensures.same ∙ c.self.view_is) (omega arith)
