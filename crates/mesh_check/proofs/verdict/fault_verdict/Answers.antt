use Rattle.std.proofs.Common.{inr, sym, ap, subst}
use Rattle.mesh_lists.specs.Lists.{IsStop}
use Rattle.mesh_lists.specs.declared.lists.ListsFault.{ListsFault}
use Rattle.mesh_check.specs.Verdict.{verdict_of}
use Rattle.mesh_check.proofs.verdict.fault_verdict.Goals as goal

pub returns-in-BadLine : goal.returns-in-BadLine
returns-in-BadLine c = record {
  verdict = λ lists stop.
      let P : ListsFault → Type 0 = λ fault. IsStop lists fault in
      inr (sym (ap verdict_of (subst P c.in-BadLine.is stop)));
}
