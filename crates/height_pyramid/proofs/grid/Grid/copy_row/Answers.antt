use Rattle.std.proofs.Common.{◌+◌, ◌*◌, ◌<◌, ◌≤◌, ◌∙◌, length, sym, ap, subst, arith}
use Rattle.std.specs.List.{between}
use Rattle.terrain_model.specs.Terrain.{Terrain}
use Rattle.height_pyramid.proofs.SampleLemmas.{copied}
use Rattle.height_pyramid.proofs.grid.Grid.copy_row.Goals as goal

pub returns : goal.returns
returns c = λ k few.
    let n = length c.args.out.now in
    let start = c.args.row * c.self.inside.width + c.args.column in
    let view = c.self.view_is in
    rw (← c.self.view_is)
    (copied _ c.args.column c.args.row n c.copy_from_slice.new.self
    (subst (λ (t : Terrain). c.args.column + n ≤ t.width) (sym view) c.requires.columns)
    (subst (λ (t : Terrain). c.args.row < t.height) (sym view) c.requires.row)
    (c.copy_from_slice.ensures.after ∙ ap (between start (start + n)) c.deref.ensures.value)
    k
    (omega (arith, few, c.copy_from_slice.ensures.len)))
