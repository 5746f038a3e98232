-- What stands at a place of a list of draws is the draw of that number.
use Rattle.std.proofs.Common.{◌≤◌, ◌+◌, ◌*◌, arith, length, ap, ◌∙◌, sym, subst}
use Rattle.std.specs.Prelude.{slice_index_or}
use Rattle.demo_flight.proofs.lattice.height_at.Goals as goal
use Rattle.demo_flight.proofs.Draws.{lattice_place, lattice_size, low}

pub bounds-heights-row : goal.bounds-heights-row
bounds-heights-row c =
    let size = ap length c.requires.lattice ∙ lattice_size c.args.seed in
    let column = c.requires.column in
    let row = c.requires.row in
    omega arith

pub returns-clause-value : goal.returns-clause-value
returns-clause-value c =
    ap (λ h. slice_index_or h (26 * c.args.row + c.args.column) 0) c.requires.lattice
    ∙ lattice_place c.args.seed c.args.column c.args.row c.requires.column c.requires.row

pub returns-clause-small : goal.returns-clause-small
returns-clause-small c =
    subst (λ h. h ≤ 2000) (sym (returns-clause-value c)) (low c.args.seed c.args.column c.args.row)
