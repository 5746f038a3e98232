-- The coordinates and the height, one by one.
use Rattle.std.proofs.Common.{◌≡◌, ℤ, w32, ◌∙◌, rules}
use Rattle.std.proofs.lemmas.Int.{to_z-of_z}
use Rattle.mesh_model.specs.Vertices.{vertex_at}
use Rattle.mesh_plain.proofs.vertices.vertex_at.Goals as goal
use mir.Val.{to_z, of_z, SFits}

-- a number in its range is read as itself
read_32 : {z x : ℤ} → SFits w32 z → z ≡ x → to_z w32 (of_z w32 z) ≡ x
read_32 {z} fits e = to_z-of_z w32 z fits ∙ e

pub returns : goal.returns
unfolding vertex_at
returns c =
    let x_fits : SFits w32 c.position_of-at.result.x = search rules in
    let z_fits : SFits w32 c.position_of-at.result.z = search rules in
    let x = read_32 x_fits c.position_of-at.ensures.x in
    let z = read_32 z_fits c.position_of-at.ensures.z in
    let height = read_32 (record { sfits = c.vertex_height.type_inv }) c.vertex_height.ensures.value in
    λ t. record { x = x t; z = z t; height = height t }
