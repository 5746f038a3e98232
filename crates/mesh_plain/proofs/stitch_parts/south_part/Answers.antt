-- A region that has a cell has a last row.
use Rattle.std.proofs.Common.{◌≡◌, ◌-◌, ℤ, ℕ, pos, ◌+ℤ◌, List, reverse, ap, subst, ◌∙◌, arith}
use Rattle.std.specs.Result.{IfOk}
use Rattle.mesh_model.specs.declared.shapes.PartKind.TheVariants.{StitchSouth}
use Rattle.mesh_model.specs.Parts.{stitch_part, places_in_row}
use Rattle.mesh_plain.proofs.Borders.{rows_reach}
use Rattle.mesh_plain.proofs.stitch_parts.south_part.Goals as goal

pub overflow_sub-last : goal.overflow_sub-last
overflow_sub-last c = omega (arith, c.rows-last.ensures.value, (rows_reach c.args.active.now c.requires.some).some)

pub places_in_row-requires-clause-row : goal.places_in_row-requires-clause-row
places_in_row-requires-clause-row c = omega (arith, c.rows-last.ensures.value, (rows_reach c.args.active.now c.requires.some).some)

pub returns : goal.returns
returns c =
    let walk = λ (at : ℤ). reverse (places_in_row c.args.vertices.now c.args.level c.args.active.now at) in
    let at_last = ap (λ (n : ℕ). c.args.active.now.y0 +ℤ pos (n - 1)) c.rows-last.ensures.value ∙ (rows_reach c.args.active.now c.requires.some).last in
    let same = c.as_slice.ensures.value ∙ c.reverse.ensures.items ∙ ap reverse c.in_ok-walk.ensures ∙ ap walk at_last in
    subst (λ (places : List ℕ). IfOk c.stitch_part.result (λ part. part ≡ stitch_part c.args.level StitchSouth places)) same c.stitch_part.ensures
