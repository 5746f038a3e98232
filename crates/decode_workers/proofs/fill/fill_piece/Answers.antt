use Rattle.std.proofs.Common.{sym, subst}
use Rattle.terrain_model.specs.Terrain.{level_height}
use Rattle.decode_workers.specs.Fills.{HasFewCells}
use Rattle.decode_workers.proofs.Filling.{few_cells}
use Rattle.decode_workers.proofs.fill.fill_piece.Goals as goal

pub cell_count-requires : goal.cell_count-requires
cell_count-requires c =
    subst HasFewCells (sym c.cells.ensures) (few_cells c.args.job.land c.args.job.note c.args.job.patch c.patch-patch.ensures.kept)

pub write-requires : goal.write-requires
write-requires c =
    let job = c.args.job in
    c.read_by_places_are_listed.ensures (level_height job.land.terrain job.note.level) job.note.piece.cells c.write_heights.new.out c.write_heights.ensures.many c.write_heights.ensures.heights
