use Rattle.std.proofs.Common.{◌≡◌, ◌+ℤ◌, ◌∙◌, pos, ap, sym, subst, rules}
use Rattle.std.specs.Int.{w32}
use Rattle.std.proofs.lemmas.Int.{to_z-of_z}
use Rattle.std.proofs.lemmas.Bool.{false≢true}
use mir.Val.{SFits, to_z}
use Rattle.four_point.specs.Steps.{brought, IsNear}
use Rattle.block_heights.proofs.Cells.{same16}
use Rattle.block_heights.proofs.CodedRows.{read_sum}
use Rattle.block_heights.proofs.rows.height_in.Goals as goal

pub returns-then-not-is_near-clause-far : goal.returns-then-not-is_near-clause-far
returns-then-not-is_near-clause-far c =
    let row = c.args.row.now in
    let a = c.args.a in
    let i_fits : SFits w32 row.cell.i = search rules in
    let j_fits : SFits w32 row.cell.j = search rules in
    let sum_fits : SFits w32 (row.cell.i +ℤ pos a) = search rules in
    let a_is : to_z w32 a ≡ pos a = search rules in
    let value_fits : SFits w32 c.value_in-value.result = record { sfits = c.value_in-value.type_inv } in (
      read_sum row.cell.i (to_z w32 a) a a_is i_fits sum_fits,
      to_z-of_z w32 row.cell.j j_fits,
      to_z-of_z w32 c.value_in-value.result value_fits ∙ c.value_in-value.ensures.value,
      λ near. false≢true (sym c.if-not-is_near.true ∙ c.is_near.ensures.1 near),
    )

pub returns-clause-near : goal.returns-clause-near
returns-clause-near c =
    let value_fits : SFits w32 c.value_in-value.result = record { sfits = c.value_in-value.type_inv } in
    subst (IsNear c.args.row.now.step) (to_z-of_z w32 c.value_in-value.result value_fits ∙ c.value_in-value.ensures.value) (c.is_near.ensures.0 c.if-not-is_near.false)

pub returns-clause-height : goal.returns-clause-height
returns-clause-height c =
    let value_fits : SFits w32 c.value_in-value.result = record { sfits = c.value_in-value.type_inv } in
    same16 c.bring.result c.bring.type_inv
    ∙ c.bring.ensures.value
    ∙ ap brought (to_z-of_z w32 c.value_in-value.result value_fits ∙ c.value_in-value.ensures.value)
