use Rattle.std.proofs.Common.{◌≡◌, true, refl, sym, ap, subst, ◌∙◌}
use Rattle.gate_rule.specs.Flags.{flag, least, how_many}
use Rattle.clip_gate.specs.Passes.{PassView, pass_of}
use Rattle.clip_gate.specs.Calls.{IsSplit}
use Rattle.clip_gate.proofs.Seatings.{none_flagged, least_there, given_whole, split_is}
use Rattle.clip_gate.proofs.clip.Clip.split.Goals as goal

pub returns-then-number-eq16-clause-none : goal.returns-then-number-eq16-clause-none
returns-then-number-eq16-clause-none c =
    let none : how_many c.pass.inside.left ≡ 0 = none_flagged c.pass.inside.left (sym c.least-number.ensures ∙ c.if-number-eq16.true ∙ sym c.pass.told) in
    sym (ap (λ (q : PassView). how_many q.left) c.pass.view_is) ∙ sym (ap how_many c.pass.invariant.giving) ∙ none

pub split-seat-requires-clause-some : goal.split-seat-requires-clause-some
split-seat-requires-clause-some c =
    subst (λ flags. flag flags (least flags) ≡ true) c.pass.invariant.giving (least_there c.pass.inside.left (λ is. c.if-number-eq16.false (c.least-number.ensures ∙ is ∙ c.pass.told)))

pub invariant_of-result : goal.invariant_of-result
invariant_of-result c =
    let some : flag c.pass.inside.seat.me.0.left (least c.pass.inside.seat.me.0.left) ≡ true = subst (λ flags. flag flags (least flags) ≡ true) c.pass.invariant.giving (least_there c.pass.inside.left (λ is. c.if-number-eq16.false (c.least-number.ensures ∙ is ∙ c.pass.told))) in
    given_whole c.split-seat.result.table_id c.pass.inside.seat.me c.split-seat.result.me c.least-number.result _ c.pass.invariant.rests c.split-seat.ensures.given_rests some c.split-seat.ensures.given (c.least-number.ensures ∙ ap least c.pass.invariant.giving) refl

pub returns-clause-split : goal.returns-clause-split
returns-clause-split c =
    let table = c.pass.inside.seat.table_id in
    let some : flag c.pass.inside.seat.me.0.left (least c.pass.inside.seat.me.0.left) ≡ true = subst (λ flags. flag flags (least flags) ≡ true) c.pass.invariant.giving (least_there c.pass.inside.left (λ is. c.if-number-eq16.false (c.least-number.ensures ∙ is ∙ c.pass.told))) in
    let kept = c.split-seat.new.seat in
    let given = c.split-seat.result in
    subst (λ (q : PassView). IsSplit q (pass_of kept.table_id kept.me.0) (pass_of given.table_id given.me.0)) c.pass.view_is
    (split_is table kept.table_id given.table_id c.pass.inside.seat.me kept.me given.me c.split-seat.ensures.table.0 c.split-seat.ensures.table.1 c.pass.invariant.rests some c.split-seat.ensures.kept c.split-seat.ensures.given)
