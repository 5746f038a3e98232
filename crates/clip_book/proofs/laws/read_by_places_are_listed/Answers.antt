use Rattle.clip_book.proofs.Listed.{listed}
use Rattle.clip_book.proofs.laws.read_by_places_are_listed.Goals as goal

pub returns : goal.returns
returns c = listed c.cells_stand_in_rows.ensures
