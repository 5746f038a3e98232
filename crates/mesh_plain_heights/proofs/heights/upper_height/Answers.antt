-- The coarser cell can be asked for, and the coordinates that are passed are those of the definition.
use Rattle.std.proofs.Common.{◌≡◌, ◌+◌, ◌∙◌, ℤ, subst, sym, ap, w32, rules, arith}
use Rattle.std.proofs.lemmas.Int.{to_z-of_z}
use Rattle.height_pyramid.specs.Reach.{IsInReach}
use Rattle.mesh_model.specs.Height.{upper_end}
use Rattle.mesh_plain_heights.proofs.Reaches.{upper_reach}
use Rattle.mesh_plain_heights.proofs.heights.upper_height.Goals as goal
use mir.Val.{to_z, of_z, SFits}
use Rattle.mesh_model.proofs.Weights.{read_32}

column_is : (c : goal.After-upper_end-2) → to_z w32 (of_z w32 c.upper_end.result) ≡ upper_end c.args.cell.now.i
column_is c =
    let fits : SFits w32 c.args.cell.now.i = search rules in
    read_32 (record { sfits = c.upper_end.type_inv }) (c.upper_end.ensures.value ∙ ap upper_end (to_z-of_z w32 c.args.cell.now.i fits))

row_is : (c : goal.After-upper_end-2) → to_z w32 (of_z w32 c.upper_end-2.result) ≡ upper_end c.args.cell.now.j
row_is c =
    let fits : SFits w32 c.args.cell.now.j = search rules in
    read_32 (record { sfits = c.upper_end-2.type_inv }) (c.upper_end-2.ensures.value ∙ ap upper_end (to_z-of_z w32 c.args.cell.now.j fits))

pub level_height-requires-clause-column : goal.level_height-requires-clause-column
level_height-requires-clause-column c =
    subst (λ (z : ℤ). IsInReach (c.args.cell.now.level + 1) z) (sym (column_is c)) (upper_reach c.args.cell.now.level c.args.cell.now.i (omega arith) c.requires.column)

pub level_height-requires-clause-row : goal.level_height-requires-clause-row
level_height-requires-clause-row c =
    subst (λ (z : ℤ). IsInReach (c.args.cell.now.level + 1) z) (sym (row_is c)) (upper_reach c.args.cell.now.level c.args.cell.now.j (omega arith) c.requires.row)
