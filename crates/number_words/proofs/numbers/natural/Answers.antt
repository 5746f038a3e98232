use Rattle.std.proofs.Common.{◌≡◌, ◌^◌, ◌<◌, sym, ◌∙◌, ap, arith, decimal}
use Rattle.std.proofs.lemmas.Fmt.{parse-decimal}
use Rattle.std.proofs.lemmas.Slice.Eq.{bytes_eq-Decides}
use Rattle.number_words.proofs.Spelling.{natural_of_text, natural_of_other, not_true, not_false}
use Rattle.number_words.proofs.numbers.natural.Goals as goal

pub returns-in_default-clause-value : goal.returns-in_default-clause-value
returns-in_default-clause-value c = sym (natural_of_other c.args.low c.args.high c.args.word.now (λ n above below is.
    let small : n < 2 ^ 64 = omega arith in
    c.in_default.not-Ok n (parse-decimal 64 n c.args.word.now c.parse.result small small is c.parse.ensures.value.0)))

pub returns-then-number-low-clause-value : goal.returns-then-number-low-clause-value
returns-then-number-low-clause-value c = sym (natural_of_other c.args.low c.args.high c.args.word.now (λ n above below is.
    let small : n < 2 ^ 64 = omega arith in
    let read = parse-decimal 64 n c.args.word.now c.parse.result small small is c.parse.ensures.value.0 in
    let same : c.in-Ok.number ≡ n = cc in
    omega (arith, c.then-number-low.either)))

pub returns-then-ne-clause-value : goal.returns-then-ne-clause-value
returns-then-ne-clause-value c = sym (natural_of_other c.args.low c.args.high c.args.word.now (λ n above below is.
    let small : n < 2 ^ 64 = omega arith in
    let read = parse-decimal 64 n c.args.word.now c.parse.result small small is c.parse.ensures.value.0 in
    let same : n ≡ c.in-Ok.number = cc in
    let text : c.format.result.now ≡ c.args.word.now = c.format.ensures.text ∙ ap decimal (sym same) ∙ sym is in
    let equal = (bytes_eq-Decides c.format.result.now c.args.word.now).1 text in
    not_true _ _ c.ne.ensures c.if-ne.true equal))

pub returns-clause-value : goal.returns-clause-value
returns-clause-value c = let text : c.args.word.now ≡ decimal c.in-Ok.number = sym ((bytes_eq-Decides c.format.result.now c.args.word.now).0
    (not_false _ _ c.ne.ensures c.if-ne.false)) ∙ c.format.ensures.text in
    sym (natural_of_text c.args.low c.args.high c.args.word.now c.in-Ok.number (omega arith) (omega arith) (omega arith) text)
