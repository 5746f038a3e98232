-- A cell outside the gap stays, and another is left out.
use Rattle.std.proofs.Common.{arith, append-nil, sym, ap, ◌∙◌, ◌++◌, List}
use Rattle.std.specs.List.{filter}
use Rattle.std.proofs.lemmas.List.{at_drop_all}
use Rattle.mesh_plain_heights.specs.declared.places.Cell.{Cell}
use Rattle.mesh_plain.specs.Rings.{is_outside}
use Rattle.mesh_plain.proofs.rings.add_outside.Goals as goal

pub returns : goal.returns
returns c =
    sym (append-nil c.loop-cell.listed.items)
    ∙ ap (λ (rest : List Cell). c.loop-cell.listed.items ++ rest) (sym (at_drop_all (filter (is_outside c.args.gap.now)) c.args.cells.now c.loop-cell.cell-index (omega arith)))
    ∙ c.loop-cell.invariant
