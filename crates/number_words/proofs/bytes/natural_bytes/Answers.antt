use Rattle.std.proofs.Common.{sym, ◌^◌, ◌<◌, arith}
use Rattle.number_words.proofs.Spelling.{natural_of_other, IsUtf8-decimal}
use Rattle.number_words.proofs.bytes.natural_bytes.Goals as goal

pub returns-in_default-clause-value : goal.returns-in_default-clause-value
returns-in_default-clause-value c = sym (natural_of_other c.args.low c.args.high c.args.word.now (λ n above below is.
    let small : n < 2 ^ 64 = omega arith in
    c.in_default.ensures.cases.0 (IsUtf8-decimal n c.args.word.now small is)))
