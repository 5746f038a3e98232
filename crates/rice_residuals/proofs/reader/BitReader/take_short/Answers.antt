use Rattle.std.proofs.Common.{ℕ, ◌<◌, ◌-◌, ◌/◌, ◌%◌, ◌^◌, ◌∙◌, ap, subst, arith}
use Rattle.rice_residuals.proofs.OnesTaken.{shorter_end}
use Rattle.rice_residuals.proofs.ShortTaken.{taken_short}
use Rattle.rice_residuals.proofs.reader.BitReader.take_short.Goals as goal

pub returns-clause-code : goal.returns-clause-code
returns-clause-code c =
    let r = c.ready-register in
    let ones = c.ones_of-ones in
    let low = c.low_of in
    let count = c.from-count.ensures in
    let held = r.result.held - ones.result - 1 - c.from-count.result in
    let few : ones.result < 32 = omega arith in
    let inside : ones.result < r.result.held = omega arith in
    taken_short c.self.inside.bytes.now r.result c.args.self.now ones.result c.args.parameter held low.result c.joined.result
    (r.ensures.same ∙ c.self.view_is)
    ones.ensures.run few (ones.ensures.zero few inside)
    (omega (arith, count))
    (ap (λ (n : ℕ). r.result.held - ones.result - 1 - n) count)
    (low.ensures.value ∙ ap (λ (n : ℕ). (r.result.bits / 2 ^ held) % 2 ^ n) count)
    (subst (λ (n : ℕ). low.result < 2 ^ n) count low.ensures.below)
    c.joined.ensures

pub returns-clause-end : goal.returns-clause-end
returns-clause-end c =
    let r = c.ready-register in
    let held = r.result.held - c.ones_of-ones.result - 1 - c.from-count.result in
    shorter_end c.self.inside.bytes.now r.result c.args.self.now held r.ensures.sound (r.ensures.same ∙ c.self.view_is) (omega arith)
