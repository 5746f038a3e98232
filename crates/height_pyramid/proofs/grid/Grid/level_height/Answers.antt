use Rattle.std.proofs.Common.{◌≡◌, ◌*ℤ◌, ◌∙◌, rules}
use Rattle.std.specs.Int.{w16, w32}
use mir.Val.{SFits, to_z, of_z}
use Rattle.height_pyramid.proofs.SampleLemmas.{same16, same32, reach_fits, level_by_sample}
use Rattle.height_pyramid.proofs.grid.Grid.level_height.Goals as goal

pub returns : goal.returns
returns c =
    let i = c.args.i in
    let j = c.args.j in
    let s = c.spacing-spacing.result in
    let s_fits : SFits w32 s = search rules in
    let s_same : to_z w32 (of_z w32 s) ≡ s = same32 s s_fits in
    let i_same : to_z w32 (of_z w32 i) ≡ i = same32 i c.ranges.i in
    let j_same : to_z w32 (of_z w32 j) ≡ j = same32 j c.ranges.j in
    let x_same : to_z w32 (of_z w32 (i *ℤ s)) ≡ i *ℤ s = same32 (i *ℤ s) (reach_fits c.args.level i s c.requires.column c.spacing-spacing.ensures) in
    let y_same : to_z w32 (of_z w32 (j *ℤ s)) ≡ j *ℤ s = same32 (j *ℤ s) (reach_fits c.args.level j s c.requires.row c.spacing-spacing.ensures) in
    let read = rw (s_same, i_same, j_same, x_same, y_same) at c.sample.ensures in
    let fits : SFits w16 c.sample.result = search rules in
    same16 c.sample.result fits ∙ level_by_sample c.args.self.now c.args.level i j s c.sample.result c.spacing-spacing.ensures read
