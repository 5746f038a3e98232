use Rattle.std.proofs.Common.{◌+◌, ◌*◌, ◌∙◌, ℕ, sym, ap, rules}
use Rattle.std.specs.Int.{w32}
use Rattle.std.proofs.lemmas.Int.{to_z-of_z}
use mir.Val.{SFits}
use Rattle.terrain_model.specs.Tile.{raw_sample}
use Rattle.block_heights.specs.Pieces.{plain_height}
use Rattle.block_heights.proofs.Cells.{lies, same16, within_inside, within_outside, plain_at_place}
use Rattle.block_heights.proofs.pieces.plain_at.Goals as goal

pub returns-then-not-contains : goal.returns-then-not-contains
returns-then-not-contains c =
    let i_fits : SFits w32 c.args.cell.i = search rules in
    let j_fits : SFits w32 c.args.cell.j = search rules in
    let e = simp to_z-of_z at c.contains.ensures in
    sym (within_outside c.args.inside (plain_height c.args.bytes.now c.args.inside) c.args.cell.i c.args.cell.j (sym e ∙ c.if-not-contains.true))

pub place_in-place-requires-clause-inside : goal.place_in-place-requires-clause-inside
place_in-place-requires-clause-inside c =
    let i_fits : SFits w32 c.args.cell.i = search rules in
    let j_fits : SFits w32 c.args.cell.j = search rules in
    let e = simp to_z-of_z at c.contains.ensures in
    lies c.args.inside c.args.cell.i c.args.cell.j (sym e ∙ c.if-not-contains.false)

pub returns : goal.returns
returns c =
    let i_fits : SFits w32 c.args.cell.i = search rules in
    let j_fits : SFits w32 c.args.cell.j = search rules in
    let e = simp to_z-of_z at c.contains.ensures in
    let inside = c.args.inside in
    let bytes = c.args.bytes.now in
    let place = c.place_in-place in
    let a = place.result.a in
    let b = place.result.b in
    same16 c.number_at.result c.number_at.type_inv
    ∙ c.number_at.ensures
    ∙ ap (λ (w : ℕ). raw_sample bytes (b * w + a)) c.sides_of-width.ensures.columns
    ∙ sym (plain_at_place bytes inside c.args.cell.i c.args.cell.j a b place.ensures.column place.ensures.row)
    ∙ sym (within_inside inside (plain_height bytes inside) c.args.cell.i c.args.cell.j (sym e ∙ c.if-not-contains.false))
