use Rattle.std.proofs.Common.{sym, pos, neg_ℤ, ◌^◌, ◌<◌, arith, w64, FitsSigned}
use lib.Signed.{mag}
use borrow.Author.Differences.{ints}
use Rattle.number_words.proofs.Spelling.{whole_of_other, IsUtf8-signed}
use Rattle.number_words.proofs.bytes.wide_whole_bytes.Goals as goal

pub returns-in_default-clause-value : goal.returns-in_default-clause-value
returns-in_default-clause-value c = sym (whole_of_other (neg_ℤ (pos c.args.limit)) (pos c.args.limit) c.args.word.now (λ n above below is.
    let fits : FitsSigned w64 n = omega (arith, ints) in
    let small : mag n < 2 ^ 63 = omega (arith, ints) in
    c.in_default.ensures.cases.0 (IsUtf8-signed n c.args.word.now small is)))
