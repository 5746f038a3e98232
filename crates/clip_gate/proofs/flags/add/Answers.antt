use Rattle.std.proofs.Common.{◌≡◌, false, length, sym, ◌∙◌, arith}
use Rattle.std.proofs.lemmas.List.{ext_get_or}
use Rattle.gate_rule.specs.Flags.{either_flags}
use Rattle.gate_rule.proofs.FlagLaws.{either_flag, either_length}
use Rattle.clip_gate.proofs.flags.add.Goals as goal

pub returns : goal.returns
returns c =
    let old = c.args.flags.now in
    let more = c.args.more.now in
    let long : length c.loop-place.flags ≡ 16 = c.loop-place.invariant.0 in
    let first : length old ≡ 16 = c.told-flags in
    let second : length more ≡ 16 = c.told-more in
    let done = c.loop-place-test.false in
    ext_get_or false c.loop-place.flags (either_flags old more) (long ∙ sym first ∙ sym (either_length old more (first ∙ sym second))) (λ p near. c.loop-place.invariant.1 p (omega arith) ∙ sym (either_flag old more p))
