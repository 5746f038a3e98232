use Rattle.store_verdicts.proofs.Verdicts.{one_of_any}
use Rattle.store_verdicts.proofs.laws.one_verdict.Goals as goal

pub returns : goal.returns
returns c =
    one_of_any c.store_or_fault.ensures c.one_terrain.ensures c.one_first_fault.ensures.store c.one_first_fault.ensures.first
