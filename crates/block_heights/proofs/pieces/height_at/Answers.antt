use Rattle.std.proofs.Common.{◌≡◌, ◌∙◌, sym, ap, subst, rules}
use Rattle.std.specs.Int.{w32}
use Rattle.std.proofs.lemmas.Int.{to_z-of_z}
use Rattle.std.proofs.lemmas.Bool.{false≢true}
use mir.Val.{SFits, to_z, of_z}
use Rattle.four_point.specs.Patches.{patch_height, IsOfBlock}
use Rattle.four_point.specs.declared.patch.Patch.{Patch}
use Rattle.four_point.specs.Steps.{value_of, brought, IsNear}
use Rattle.block_heights.specs.Rows.{table_code}
use Rattle.block_heights.specs.Pieces.{coded_height}
use Rattle.block_heights.proofs.Cells.{lies, same16, between, within_inside, within_outside}
use Rattle.block_heights.proofs.pieces.height_at.Goals as goal

pub returns-then-not-contains-clause-height : goal.returns-then-not-contains-clause-height
returns-then-not-contains-clause-height c =
    let i = c.args.cell.i in
    let j = c.args.cell.j in
    let i_fits : SFits w32 c.args.cell.i = search rules in
    let j_fits : SFits w32 c.args.cell.j = search rules in
    let e = simp to_z-of_z at c.contains.ensures in
    let inside = c.args.codes.inside in
    let code = table_code inside c.args.codes.table.now in
    let coarser = patch_height c.args.codes.patch.now in
    let step = c.args.codes.step in
    sym (within_outside inside (coded_height coarser step code) i j (sym e ∙ c.if-not-contains.true))

pub code_at-code-requires-clause-inside : goal.code_at-code-requires-clause-inside
code_at-code-requires-clause-inside c =
    let i = c.args.cell.i in
    let j = c.args.cell.j in
    let i_fits : SFits w32 c.args.cell.i = search rules in
    let j_fits : SFits w32 c.args.cell.j = search rules in
    let e = simp to_z-of_z at c.contains.ensures in
    let inside = c.args.codes.inside in
    let code = table_code inside c.args.codes.table.now in
    let coarser = patch_height c.args.codes.patch.now in
    let step = c.args.codes.step in
    lies inside i j (sym e ∙ c.if-not-contains.false)

pub value_by-value-requires-clause-column : goal.value_by-value-requires-clause-column
value_by-value-requires-clause-column c =
    let i = c.args.cell.i in
    let j = c.args.cell.j in
    let i_fits : SFits w32 c.args.cell.i = search rules in
    let j_fits : SFits w32 c.args.cell.j = search rules in
    let e = simp to_z-of_z at c.contains.ensures in
    let inside = c.args.codes.inside in
    let code = table_code inside c.args.codes.table.now in
    let coarser = patch_height c.args.codes.patch.now in
    let step = c.args.codes.step in
    let l = lies inside i j (sym e ∙ c.if-not-contains.false) in
    let p = c.requires.patch in
    subst (λ (p : Patch). IsOfBlock p.i0 (to_z w32 (of_z w32 i))) (sym c.requires.predicted)
    (subst (IsOfBlock c.args.codes.patch.now.i0) (sym (to_z-of_z w32 i i_fits)) (between c.args.codes.patch.now.i0 inside.x0 inside.x1 i p.first_column p.last_column l.west l.east))

pub value_by-value-requires-clause-row : goal.value_by-value-requires-clause-row
value_by-value-requires-clause-row c =
    let i = c.args.cell.i in
    let j = c.args.cell.j in
    let i_fits : SFits w32 c.args.cell.i = search rules in
    let j_fits : SFits w32 c.args.cell.j = search rules in
    let e = simp to_z-of_z at c.contains.ensures in
    let inside = c.args.codes.inside in
    let code = table_code inside c.args.codes.table.now in
    let coarser = patch_height c.args.codes.patch.now in
    let step = c.args.codes.step in
    let l = lies inside i j (sym e ∙ c.if-not-contains.false) in
    let p = c.requires.patch in
    subst (λ (p : Patch). IsOfBlock p.j0 (to_z w32 (of_z w32 j))) (sym c.requires.predicted)
    (subst (IsOfBlock c.args.codes.patch.now.j0) (sym (to_z-of_z w32 j j_fits)) (between c.args.codes.patch.now.j0 inside.y0 inside.y1 j p.first_row p.last_row l.north l.south))

pub returns-then-not-is_near-clause-far : goal.returns-then-not-is_near-clause-far
returns-then-not-is_near-clause-far c =
    let i = c.args.cell.i in
    let j = c.args.cell.j in
    let i_fits : SFits w32 c.args.cell.i = search rules in
    let j_fits : SFits w32 c.args.cell.j = search rules in
    let e = simp to_z-of_z at c.contains.ensures in
    let inside = c.args.codes.inside in
    let code = table_code inside c.args.codes.table.now in
    let coarser = patch_height c.args.codes.patch.now in
    let step = c.args.codes.step in
    let code_fits : SFits w32 c.code_at-code.result = record { sfits = c.code_at-code.type_inv } in
    let value_fits : SFits w32 c.value_by-value.result = record { sfits = c.value_by-value.type_inv } in
    let by_code = simp to_z-of_z at c.value_by-value.ensures in
    let value : to_z w32 (of_z w32 c.value_by-value.result) ≡ value_of coarser step i j (code i j) =
    to_z-of_z w32 c.value_by-value.result value_fits ∙ by_code ∙ ap (λ (p : Patch). value_of (patch_height p) step i j c.code_at-code.result) c.requires.predicted ∙ ap (value_of coarser step i j) c.code_at-code.ensures.value in (
      to_z-of_z w32 i i_fits,
      to_z-of_z w32 j j_fits,
      sym e ∙ c.if-not-contains.false,
      value,
      λ near. false≢true (sym c.if-not-is_near.true ∙ c.is_near.ensures.1 near),
    )

pub returns-clause-near : goal.returns-clause-near
returns-clause-near c = λ contained.
    let i = c.args.cell.i in
    let j = c.args.cell.j in
    let i_fits : SFits w32 c.args.cell.i = search rules in
    let j_fits : SFits w32 c.args.cell.j = search rules in
    let e = simp to_z-of_z at c.contains.ensures in
    let inside = c.args.codes.inside in
    let code = table_code inside c.args.codes.table.now in
    let coarser = patch_height c.args.codes.patch.now in
    let step = c.args.codes.step in
    let code_fits : SFits w32 c.code_at-code.result = record { sfits = c.code_at-code.type_inv } in
    let value_fits : SFits w32 c.value_by-value.result = record { sfits = c.value_by-value.type_inv } in
    let by_code = simp to_z-of_z at c.value_by-value.ensures in
    let value : to_z w32 (of_z w32 c.value_by-value.result) ≡ value_of coarser step i j (code i j) =
    to_z-of_z w32 c.value_by-value.result value_fits ∙ by_code ∙ ap (λ (p : Patch). value_of (patch_height p) step i j c.code_at-code.result) c.requires.predicted ∙ ap (value_of coarser step i j) c.code_at-code.ensures.value in
    subst (IsNear step) value (c.is_near.ensures.0 c.if-not-is_near.false)

pub returns-clause-height : goal.returns-clause-height
returns-clause-height c =
    let i = c.args.cell.i in
    let j = c.args.cell.j in
    let i_fits : SFits w32 c.args.cell.i = search rules in
    let j_fits : SFits w32 c.args.cell.j = search rules in
    let e = simp to_z-of_z at c.contains.ensures in
    let inside = c.args.codes.inside in
    let code = table_code inside c.args.codes.table.now in
    let coarser = patch_height c.args.codes.patch.now in
    let step = c.args.codes.step in
    let code_fits : SFits w32 c.code_at-code.result = record { sfits = c.code_at-code.type_inv } in
    let value_fits : SFits w32 c.value_by-value.result = record { sfits = c.value_by-value.type_inv } in
    let by_code = simp to_z-of_z at c.value_by-value.ensures in
    let value : to_z w32 (of_z w32 c.value_by-value.result) ≡ value_of coarser step i j (code i j) =
    to_z-of_z w32 c.value_by-value.result value_fits ∙ by_code ∙ ap (λ (p : Patch). value_of (patch_height p) step i j c.code_at-code.result) c.requires.predicted ∙ ap (value_of coarser step i j) c.code_at-code.ensures.value in
    same16 c.bring.result c.bring.type_inv
    ∙ c.bring.ensures.value
    ∙ ap brought value
    ∙ sym (within_inside inside (coded_height coarser step code) i j (sym e ∙ c.if-not-contains.false))
