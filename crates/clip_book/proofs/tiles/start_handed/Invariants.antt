use Rattle.std.proofs.Common.{◌≡◌, replicate, None}
use Rattle.clip_book.proofs.tiles.start_handed.Given as goal

abbrev pub invariant-made : goal.invariant-made
invariant-made l = l.handed.items ≡ replicate l.counter None
