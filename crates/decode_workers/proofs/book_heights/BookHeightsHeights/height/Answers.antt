use Rattle.std.proofs.Common.{◌∙◌, w32}
use Rattle.std.proofs.lemmas.Int.{to_z-of_z}
use Rattle.clip_regions.specs.Regions.{contains}
use Rattle.mesh_model.specs.Height.{active_at}
use Rattle.decode_workers.proofs.Showing.{shows}
use Rattle.decode_workers.proofs.book_heights.BookHeightsHeights.height.Goals as goal
use mir.Val.{to_z, of_z}

pub height-requires : goal.height-requires
height-requires c =
    let i = to_z-of_z w32 c.args.i c.ranges.i in
    let j = to_z-of_z w32 c.args.j c.ranges.j in
    let own = c.args.self.now in
    shows own.book.now.plan.state own.pass c.args.level (to_z w32 (of_z w32 c.args.i)) (to_z w32 (of_z w32 c.args.j)) own.actives own.shown ((λ t. contains (active_at own.actives c.args.level) (i t) (j t)) ∙ c.requires.cell)
