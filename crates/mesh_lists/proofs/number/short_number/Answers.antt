use Rattle.std.proofs.Common.{◌≡◌, ◌<◌, get_or, arith, refl}
use Rattle.std.specs.Char.{digit_value}
use Rattle.std.proofs.lemmas.Int.Digits.{digits_value_more, digits_more}
use Rattle.mesh_lists.proofs.Digits.{text_of}
use Rattle.mesh_lists.proofs.number.short_number.Goals as goal

pub loop-b-preserved : goal.loop-b-preserved
loop-b-preserved c =
    let word = c.args.word.now in
    let i = c.loop-b.b-index in
    let is : c.in-Some.digit ≡ digit_value (get_or word i 0) = c.in-Some.ensures.value in
    let less : digit_value (get_or word i 0) < 10 = let small = c.in-Some.ensures.small in omega arith in
    let more = digits_value_more 10 word i c.loop-b-test.true in
    record {
      value = omega (arith, more, is, c.loop-b.invariant.value);
      digits = digits_more 10 word i c.loop-b-test.true c.loop-b.invariant.digits less;
      small = let small = c.in-Some.ensures.small in omega arith;
    }

pub returns-clause-text : goal.returns-clause-text
returns-clause-text c =
    let plain = c.if-not-is_plain.ensures in
    text_of c.args.word.now c.loop-b.b-index c.loop-b.number c.loop-b-test.false c.loop-b.invariant.value c.loop-b.invariant.digits c.loop-b.invariant.small (plain.some refl) (plain.zero refl)
