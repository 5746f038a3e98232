-- A region that has a cell has a first row.
use Rattle.mesh_plain.proofs.Borders.{rows_reach}
use Rattle.mesh_plain.proofs.stitch_parts.north_part.Goals as goal

pub places_in_row-requires-clause-row : goal.places_in_row-requires-clause-row
places_in_row-requires-clause-row c = (rows_reach c.args.active.now c.requires.some).some
