use Rattle.std.proofs.Common.{◌≡◌, ◌++◌, ◌∙◌, true, is_ok, List, ℕ, refl, ap₂, arith}
use Rattle.rice_residuals.proofs.Writing.{push_short, push_long, grown}
use Rattle.rice_residuals.proofs.writer.BitWriter.push.Goals as goal

pub returns-then-held-lt32-clause-ok : goal.returns-then-held-lt32-clause-ok
returns-then-held-lt32-clause-ok c =
    let w = c.self.inside in
    let i = c.self.invariant in
    push_short w.bytes.items c.reserve.new.self.items w.held w.pending c.args.count c.from-count.result c.args.bits c.from.result c.args.self.now c.reserve.ensures.items c.from-count.ensures c.from.ensures c.requires.bits (omega arith) c.self.view_is

pub returns-clause-ok : goal.returns-clause-ok
returns-clause-ok c =
    let w = c.self.inside in
    let i = c.self.invariant in
    let ok : is_ok c.extend_from_slice.result ≡ true = rw c.unwrap.ensures refl in
    let grew = grown (is_ok c.extend_from_slice.result) c.reserve.new.self.items c.extend_from_slice.new.self.items c.to_be_bytes.result ok c.extend_from_slice.ensures.items in
    push_long w.bytes.items c.extend_from_slice.new.self.items w.held w.pending c.args.count c.from-count.result c.args.bits c.from.result c.args.self.now (grew ∙ ap₂ (λ (x : List ℕ) (y : List ℕ). x ++ y) c.reserve.ensures.items c.to_be_bytes.ensures) c.if-held-lt32.false c.from-count.ensures c.from.ensures c.requires.bits (omega arith) c.self.view_is
