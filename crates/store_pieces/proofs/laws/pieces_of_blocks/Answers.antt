use Rattle.store_pieces.proofs.Heights.{pieces_are_heights, pieces_have_no_fault}
use Rattle.store_pieces.proofs.laws.pieces_of_blocks.Goals as goal

pub returns-clause-heights : goal.returns-clause-heights
returns-clause-heights c = pieces_are_heights c.level_outside.ensures c.one_list_of_a_word.ensures

pub returns-clause-faults : goal.returns-clause-faults
returns-clause-faults c = pieces_have_no_fault c.one_list_of_a_word.ensures c.one_fault_of_other_bytes.ensures.word
