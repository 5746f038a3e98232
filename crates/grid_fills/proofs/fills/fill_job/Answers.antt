use Rattle.grid_fills.proofs.Filling.{heights_are}
use Rattle.grid_fills.proofs.fills.fill_job.Goals as goal

pub write-requires : goal.write-requires
write-requires c =
    let s = c.of-cells.result in
    heights_are c.read_by_places_are_listed.ensures c.args.job.land.terrain c.args.grid.now c.args.job.note c.level.result s.cells s.across s.down c.heights_on-heights.result c.requires.terrain c.level.ensures c.of-cells.ensures s.columns s.rows s.few c.heights_on-heights.ensures.many c.heights_on-heights.ensures.heights
