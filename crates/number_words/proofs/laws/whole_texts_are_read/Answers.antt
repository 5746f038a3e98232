use Rattle.std.proofs.Common.{◌<◌, ◌^◌, refl, arith, w64, FitsSigned}
use lib.Signed.{mag}
use borrow.Author.Differences.{ints}
use Rattle.std.specs.Fmt.{signed_decimal}
use Rattle.number_words.proofs.Spelling.{whole_of_text, signed_value}
use Rattle.number_words.proofs.laws.whole_texts_are_read.Goals as goal

pub returns : goal.returns
returns c = λ low high n least most above below.
    let fits : FitsSigned w64 n = omega (arith, ints) in
    let small : mag n < 2 ^ 63 = omega (arith, ints) in
    whole_of_text low high (signed_decimal n) n (signed_value n fits small) above below refl
