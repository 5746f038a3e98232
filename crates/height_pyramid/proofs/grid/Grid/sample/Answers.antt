use Rattle.std.proofs.Common.{◌≡◌, ◌∙◌, rules}
use Rattle.std.specs.Int.{w16, w32}
use mir.Val.{SFits, to_z, of_z}
use Rattle.height_pyramid.proofs.SampleLemmas.{same16, same32, sample_inside}
use Rattle.height_pyramid.proofs.grid.Grid.sample.Goals as goal

pub returns : goal.returns
returns c =
    let x = c.args.x in
    let y = c.args.y in
    let height = c.index.result.now in
    let fits : SFits w16 height = search rules in
    let x_same : to_z w32 (of_z w32 x) ≡ x = same32 x c.ranges.x in
    let y_same : to_z w32 (of_z w32 y) ≡ y = same32 y c.ranges.y in
    let x_sign = rw x_same at c.if-x-lt0.false in
    let y_sign = rw y_same at c.if-y-lt0.false in
    let x_in = rw x_same at c.if-column-self.false in
    let y_in = rw y_same at c.if-row-self.false in
    let read = rw (x_same, y_same) at c.index.ensures in
    same16 height fits ∙ rw (← c.self.view_is) (sample_inside _ x y height c.self.invariant.sound x_sign y_sign x_in y_in read)
