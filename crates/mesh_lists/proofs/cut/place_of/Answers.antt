use Rattle.mesh_lists.proofs.Cuts.{first_place, no_place}
use Rattle.std.proofs.Common.{sym, arith}
use Rattle.mesh_lists.proofs.cut.place_of.Goals as goal

pub returns-clause-value : goal.returns-clause-value
returns-clause-value c = sym (no_place c.args.text.now c.args.byte (λ k h. c.loop-at.invariant k (omega arith)))

pub returns-then-b-byte-clause-value : goal.returns-then-b-byte-clause-value
returns-then-b-byte-clause-value c = sym (first_place c.args.text.now c.args.byte c.loop-at.at (omega arith) c.loop-at.invariant c.if-b-byte.true)
