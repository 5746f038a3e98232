use Rattle.outer_shelf.proofs.FileMap.{files_of-insert}
use Rattle.outer_shelf.proofs.memory.store.Goals as goal

pub returns-in-Ok-clause-ok : goal.returns-in-Ok-clause-ok
returns-in-Ok-clause-ok c = files_of-insert c.args.files.now c.insert.new.self c.args.name c.args.bytes c.in-Ok.ensures.updates
