use Rattle.clip_book.proofs.Standing.{start_stands}
use Rattle.clip_book.proofs.book.Book.start.Goals as goal

pub invariant_of-result : goal.invariant_of-result
invariant_of-result c =
    start_stands c.kept_at_the_start.ensures c.cells_at_the_start.ensures c.args.k c.levels-levels.result c.args.shape c.in-Ok.plan c.in-Ok-start.tiles c.requires.size c.levels-levels.ensures.value c.in-Ok.ensures c.in-Ok-start.ensures
