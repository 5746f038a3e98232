use Rattle.outer_shelf.proofs.folder.FolderShelfShelf.fetch.Goals as goal

pub returns-in-Err-2-clause-in_limit : goal.returns-in-Err-2-clause-in_limit
returns-in-Err-2-clause-in_limit g c = c.failed_fetch.ensures.in_limit c.args.limit
