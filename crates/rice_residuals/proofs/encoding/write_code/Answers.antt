use Rattle.std.proofs.Common.{ℕ, ◌%◌, ◌^◌, ◌<◌, ◌∙◌, ap₂, subst}
use Rattle.rice_residuals.proofs.CodeWrite.{short_pushed, short_joined, long_pushed}
use Rattle.rice_residuals.proofs.encoding.write_code.Goals as goal

pub returns-then-ones-ge-LONG_ONES : goal.returns-then-ones-ge-LONG_ONES
returns-then-ones-ge-LONG_ONES c =
    long_pushed c.args.parameter c.args.folded c.args.writer.now c.push.new.self c.push-then-ones-ge-LONG_ONES.new.self c.if-ones-ge-LONG_ONES.true c.in_ok-push.ensures.ok c.in_ok-push-2.ensures.ok

pub returns-then-ones-from-lt32 : goal.returns-then-ones-from-lt32
returns-then-ones-from-lt32 c =
    let low = c.low_of-low in
    let value = low.ensures.value ∙ ap₂ (λ (m : ℕ) (n : ℕ). m % 2 ^ n) c.from.ensures c.from-2.ensures in
    let below = subst (λ (n : ℕ). low.result < 2 ^ n) c.from-2.ensures low.ensures.below in
    short_joined c.args.parameter c.args.folded c.args.writer.now c.push-then-ones-from-lt32.new.self c.short_form.result low.result c.if-ones-ge-LONG_ONES.false value below c.short_form.ensures.value c.in_ok-push-3.ensures.ok

pub returns : goal.returns
returns c =
    short_pushed c.args.parameter c.args.folded c.args.writer.now c.push-2.new.self c.push-3.new.self c.run_of_ones.result c.low_of-low.result c.if-ones-ge-LONG_ONES.false c.run_of_ones.ensures.value (c.low_of-low.ensures.value ∙ ap₂ (λ (m : ℕ) (n : ℕ). m % 2 ^ n) c.from.ensures c.from-2.ensures) c.in_ok-push-4.ensures.ok c.in_ok-push-5.ensures.ok
