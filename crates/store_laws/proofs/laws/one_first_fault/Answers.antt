use Rattle.store_laws.proofs.OneStore.{one_fault, store_no_fault}
use Rattle.store_laws.proofs.laws.one_first_fault.Goals as goal

pub returns-clause-store : goal.returns-clause-store
returns-clause-store c =
    store_no_fault c.one_list_of_a_word.ensures c.one_fault_of_other_bytes.ensures.word c.one_fault_of_other_bytes.ensures.first

pub returns-clause-first : goal.returns-clause-first
returns-clause-first c =
    one_fault c.one_list_of_a_word.ensures c.one_fault_of_other_bytes.ensures.word c.one_fault_of_other_bytes.ensures.first
