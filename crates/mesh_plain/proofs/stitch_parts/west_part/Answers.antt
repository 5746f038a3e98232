-- A region that has a cell has a first column.
use Rattle.mesh_plain.proofs.Borders.{columns_reach}
use Rattle.mesh_plain.proofs.stitch_parts.west_part.Goals as goal

pub places_in_column-requires-clause-column : goal.places_in_column-requires-clause-column
places_in_column-requires-clause-column c = (columns_reach c.args.active.now c.requires.some).some
