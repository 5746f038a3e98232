use Rattle.std.proofs.Common.{◌*◌, ◌≤◌, ◌<◌, arith}
use Rattle.clipmap_prog.proofs.Cells.{frames_few, layers_few, cells_few}
use Rattle.clipmap_prog.proofs.swarms.cells.Goals as goal

pub overflow_mul-result : goal.overflow_mul-result
overflow_mul-result c =
    let many = c.requires.sizes.many in
    let low = c.ranges.renderers.fits in
    let renderers : c.from.result < 256 = let e = c.from.ensures in omega (arith, e, low) in
    let begins : c.from-2.result ≤ 1000 = let e = c.from-2.ensures in omega (arith, e, c.requires.few_begins) in
    let levels : c.from-3.result ≤ 12 = let e = c.from-3.ensures in omega (arith, e, many.high) in
    let frames = frames_few c.from.result c.from-2.result renderers begins in
    let layers = layers_few (c.from.result * c.from-2.result) c.from-3.result frames levels in
    let all = cells_few (c.from.result * c.from-2.result * c.from-3.result) c.level_cells.result layers c.level_cells.ensures.few in
    omega (arith, all)
