-- A region that has a cell has a last column.
use Rattle.std.proofs.Common.{◌≡◌, ◌-◌, ℤ, ℕ, pos, ◌+ℤ◌, List, ap, subst, ◌∙◌, arith}
use Rattle.std.specs.Result.{IfOk}
use Rattle.mesh_model.specs.declared.shapes.PartKind.TheVariants.{StitchEast}
use Rattle.mesh_model.specs.Parts.{stitch_part, places_in_column}
use Rattle.mesh_plain.proofs.Borders.{columns_reach}
use Rattle.mesh_plain.proofs.stitch_parts.east_part.Goals as goal

pub overflow_sub-last : goal.overflow_sub-last
overflow_sub-last c = omega (arith, c.columns-last.ensures.value, (columns_reach c.args.active.now c.requires.some).some)

pub places_in_column-requires-clause-column : goal.places_in_column-requires-clause-column
places_in_column-requires-clause-column c = omega (arith, c.columns-last.ensures.value, (columns_reach c.args.active.now c.requires.some).some)

pub returns : goal.returns
returns c =
    let walk = λ (at : ℤ). places_in_column c.args.vertices.now c.args.level c.args.active.now at in
    let at_last = ap (λ (n : ℕ). c.args.active.now.x0 +ℤ pos (n - 1)) c.columns-last.ensures.value ∙ (columns_reach c.args.active.now c.requires.some).last in
    let same = c.as_slice.ensures.value ∙ c.in_ok-walk.ensures ∙ ap walk at_last in
    subst (λ (places : List ℕ). IfOk c.stitch_part.result (λ part. part ≡ stitch_part c.args.level StitchEast places)) same c.stitch_part.ensures
