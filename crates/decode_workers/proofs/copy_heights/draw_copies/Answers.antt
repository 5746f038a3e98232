use Rattle.std.proofs.Common.{◌≡◌, ◌∙◌, subst}
use Rattle.active_region.specs.Active.{AreActive}
use Rattle.mesh_model.specs.Mesh.{MeshLists, mesh}
use Rattle.decode_workers.specs.Copies.{IsMeshOfCopies}
use Rattle.decode_workers.proofs.Copying.{where_ok}
use Rattle.decode_workers.proofs.SameMesh.{meshes_same, copies_same}
use Rattle.decode_workers.proofs.OneTerrain.{terrain_of, terrain_right}
use Rattle.decode_workers.proofs.copy_heights.draw_copies.Goals as goal

pub draw_named-requires : goal.draw_named-requires
draw_named-requires c =
    let copies = c.args.copies.now in
    record { copies = terrain_right c.cells_stand_in_rows.ensures c.requires.copies.terrain copies (subst AreActive c.actives.ensures c.levels-levels.ensures.active) c.requires.copies.right }

pub returns : goal.returns
returns c =
    let copies = c.args.copies.now in
    let law = c.cells_stand_in_rows.ensures in
    let active = subst AreActive c.actives.ensures c.levels-levels.ensures.active in
    let right = terrain_right law c.requires.copies.terrain copies active c.requires.copies.right in
    record {
      mesh = where_ok (λ (made : MeshLists). made ≡ mesh (terrain_of copies) copies.k copies.actives) (IsMeshOfCopies copies) c.draw_named.result
          (λ made is u of. is ∙ meshes_same (terrain_of copies) u copies.k copies.actives active (copies_same law (terrain_of copies) u copies right of)) c.draw_named.ensures.mesh;
    }
