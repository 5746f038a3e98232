use Rattle.store_index.proofs.Stores.{blocks_there, block_found, number_below}
use Rattle.store_index.proofs.laws.blocks_of_stores.Goals as goal

pub returns-clause-there : goal.returns-clause-there
returns-clause-there c = blocks_there

pub returns-clause-found : goal.returns-clause-found
returns-clause-found c = block_found

pub returns-clause-below : goal.returns-clause-below
returns-clause-below c = number_below
