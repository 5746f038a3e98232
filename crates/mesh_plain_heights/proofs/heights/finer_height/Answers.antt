-- The share fits, and the heights are those of the definition.
use Rattle.std.proofs.Common.{◌≡◌, ◌∙◌, ℤ, pos, ◌≤ℤ◌, false, subst, sym, w16, w32, rules}
use Rattle.std.proofs.lemmas.Int.{to_z-of_z}
use Rattle.terrain_model.specs.Terrain.{level_height}
use Rattle.plan_model.specs.Window.{blend_width}
use Rattle.mesh_model.specs.Height.{blend_share}
use Rattle.mesh_plain_heights.specs.Drawn.{blended_by}
use Rattle.mesh_plain_heights.proofs.Weights.{blend_is}
use Rattle.mesh_plain_heights.proofs.heights.finer_height.Goals as goal
use mir.Val.{to_z, of_z, SFits}
use Rattle.mesh_model.proofs.Weights.{share_fits, read_32, read_16}

pub blended-requires-clause-some : goal.blended-requires-clause-some
blended-requires-clause-some c =
    subst (λ (z : ℤ). pos 0 ≤ℤ z) (sym (read_32 (record { sfits = c.blend_share-share.type_inv }) c.blend_share-share.ensures.value))
    (share_fits c.args.k c.args.active.now c.args.cell.now.i c.args.cell.now.j c.requires.inside).some

pub blended-requires-clause-within : goal.blended-requires-clause-within
blended-requires-clause-within c =
    subst (λ (z : ℤ). z ≤ℤ pos (blend_width c.args.k)) (sym (read_32 (record { sfits = c.blend_share-share.type_inv }) c.blend_share-share.ensures.value))
    (share_fits c.args.k c.args.active.now c.args.cell.now.i c.args.cell.now.j c.requires.inside).within

pub returns : goal.returns
returns c =
    let i_fits : SFits w32 c.args.cell.now.i = search rules in
    let j_fits : SFits w32 c.args.cell.now.j = search rules in
    let i = to_z-of_z w32 c.args.cell.now.i i_fits in
    let j = to_z-of_z w32 c.args.cell.now.j j_fits in
    let share : to_z w32 (of_z w32 c.blend_share-share.result) ≡ blend_share c.args.k false c.args.active.now c.args.cell.now.i c.args.cell.now.j = read_32 (record { sfits = c.blend_share-share.type_inv }) c.blend_share-share.ensures.value in
    let own : to_z w16 (of_z w16 c.level_height-own.result) ≡ level_height c.args.terrain.now c.args.cell.now.level c.args.cell.now.i c.args.cell.now.j = read_16 (record { sfits = c.level_height-own.type_inv }) (c.level_height-own.ensures ∙ (λ t. level_height c.args.terrain.now c.args.cell.now.level (i t) (j t))) in
    let a = read_16 (record { sfits = c.lower_height.type_inv }) c.lower_height.ensures in
    let b = read_16 (record { sfits = c.upper_height.type_inv }) c.upper_height.ensures in
    read_32 (record { sfits = c.blended.type_inv })
    (c.blended.ensures
    ∙ (λ t. blended_by c.args.k (share t) (own t) (a t) (b t))
    ∙ blend_is c.args.k c.args.active.now c.args.cell.now.i c.args.cell.now.j _ _ _)
