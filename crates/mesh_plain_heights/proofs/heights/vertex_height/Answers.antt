-- The two cases of the definition.
use Rattle.std.proofs.Common.{◌≡◌, ◌+◌, ◌∙◌, ◌==◌, true, false, length, sym, ap, arith}
use Rattle.std.proofs.lemmas.Bool.Decides.{nat_tests}
use Rattle.clip_regions.specs.declared.region.Region.{Region}
use Rattle.terrain_model.specs.Terrain.{level_height}
use Rattle.mesh_model.specs.Height.{active_at, lower_end, upper_end, blended_height}
use Rattle.mesh_plain_heights.proofs.Weights.{coarsest_is, vertex_is}
use Rattle.mesh_plain_heights.proofs.heights.vertex_height.Goals as goal
use Rattle.mesh_model.proofs.Weights.{read_32}

pub returns-then-from-actives : goal.returns-then-from-actives
returns-then-from-actives c =
    let last : (c.args.cell.now.level + 1 == length c.args.actives.now) ≡ true = grind (arith, nat_tests) in
    record {
      value = read_32 (record { sfits = c.coarsest_height.type_inv })
          (c.coarsest_height.ensures
          ∙ sym (coarsest_is c.args.k (active_at c.args.actives.now c.args.cell.now.level) c.args.cell.now.i c.args.cell.now.j _ _ _ c.requires.size.low c.requires.size.high)
          ∙ vertex_is c.args.terrain.now c.args.k c.args.actives.now c.args.cell.now.level c.args.cell.now.i c.args.cell.now.j true last);
    }

pub returns-else-from-actives : goal.returns-else-from-actives
returns-else-from-actives c =
    let more : (c.args.cell.now.level + 1 == length c.args.actives.now) ≡ false = grind (arith, nat_tests) in
    record {
      value = read_32 (record { sfits = c.finer_height.type_inv })
          (c.finer_height.ensures
          ∙ ap (λ (r : Region). blended_height c.args.k false r c.args.cell.now.i c.args.cell.now.j (level_height c.args.terrain.now c.args.cell.now.level c.args.cell.now.i c.args.cell.now.j) (level_height c.args.terrain.now (c.args.cell.now.level + 1) (lower_end c.args.cell.now.i) (lower_end c.args.cell.now.j)) (level_height c.args.terrain.now (c.args.cell.now.level + 1) (upper_end c.args.cell.now.i) (upper_end c.args.cell.now.j))) c.active_at.ensures
          ∙ vertex_is c.args.terrain.now c.args.k c.args.actives.now c.args.cell.now.level c.args.cell.now.i c.args.cell.now.j false more);
    }
