use Rattle.std.proofs.Common.{pos, neg_ℤ, ◌^◌, ◌<◌, sym, arith, w64, FitsSigned}
use lib.Signed.{mag}
use borrow.Author.Differences.{ints}
use Rattle.std.proofs.lemmas.Fmt.{parse-signed_decimal}
use Rattle.number_words.proofs.Spelling.{whole_of_other}
use Rattle.number_words.proofs.numbers.wide_whole.Goals as goal

pub returns-in_default-clause-value : goal.returns-in_default-clause-value
returns-in_default-clause-value c = sym (whole_of_other (neg_ℤ (pos c.args.limit)) (pos c.args.limit) c.args.word.now (λ n above below is.
    let fits : FitsSigned w64 n = omega (arith, ints) in
    let small : mag n < 2 ^ 63 = omega (arith, ints) in
    c.in_default.not-Ok n (parse-signed_decimal w64 n c.args.word.now c.parse.result fits small is c.parse.ensures.value.0)))
