-- The ends are cells of the coarser region, and the numbers are read back.
use Rattle.std.proofs.Common.{◌+◌, false, ap, ◌∙◌, w32, rules}
use Rattle.std.specs.Int.{w16}
use Rattle.std.proofs.lemmas.Int.{to_z-of_z}
use Rattle.clip_regions.specs.Regions.{contains}
use Rattle.terrain_model.specs.Terrain.{level_height}
use Rattle.mesh_model.specs.Height.{active_at, lower_end, upper_end, blended_height}
use Rattle.ring_mesh.specs.Listed.{coarser_mean}
use Rattle.ring_mesh.proofs.heights.height_by_ends.Goals as goal
use mir.Val.{SFits}

pub height-a-requires-clause-cell : goal.height-a-requires-clause-cell
height-a-requires-clause-cell g c =
    let fi : SFits w32 c.ends-ai.result.0 = search rules in
    let fj : SFits w32 c.ends-ai.result.1 = search rules in
    let ai = to_z-of_z w32 c.ends-ai.result.0 fi ∙ c.ends-ai.ensures.ai ∙ ap lower_end (to_z-of_z w32 c.args.i c.ranges.i) in
    let aj = to_z-of_z w32 c.ends-ai.result.1 fj ∙ c.ends-ai.ensures.aj ∙ ap lower_end (to_z-of_z w32 c.args.j c.ranges.j) in
    (λ t. contains (active_at (c.requires.heights.same t) (c.args.level + 1)) (ai t) (aj t))
    ∙ c.ends_are_active.ensures.lower c.args.actives.now c.args.level c.args.i c.args.j c.at-active.ensures.active c.requires.finer c.requires.cell

pub height-b-requires-clause-cell : goal.height-b-requires-clause-cell
height-b-requires-clause-cell g c =
    let fi : SFits w32 c.ends-ai.result.2 = search rules in
    let fj : SFits w32 c.ends-ai.result.3 = search rules in
    let bi = to_z-of_z w32 c.ends-ai.result.2 fi ∙ c.ends-ai.ensures.bi ∙ ap upper_end (to_z-of_z w32 c.args.i c.ranges.i) in
    let bj = to_z-of_z w32 c.ends-ai.result.3 fj ∙ c.ends-ai.ensures.bj ∙ ap upper_end (to_z-of_z w32 c.args.j c.ranges.j) in
    (λ t. contains (active_at (c.requires.heights.same t) (c.args.level + 1)) (bi t) (bj t))
    ∙ c.ends_are_active.ensures.upper c.args.actives.now c.args.level c.args.i c.args.j c.at-active.ensures.active c.requires.finer c.requires.cell

pub blended-requires-clause-inside : goal.blended-requires-clause-inside
unfolding active_at
blended-requires-clause-inside g c =
    (λ t. contains (c.at-active.ensures.value t) (to_z-of_z w32 c.args.i c.ranges.i t) (to_z-of_z w32 c.args.j c.ranges.j t))
    ∙ c.holes_are_in_regions.ensures.contained (active_at c.args.actives.now c.args.level) c.args.i c.args.j c.requires.cell

pub returns : goal.returns
unfolding active_at coarser_mean
returns g c =
    let terrain = g.G.Heights.terrain c.args.heights.now in
    let i = to_z-of_z w32 c.args.i c.ranges.i in
    let j = to_z-of_z w32 c.args.j c.ranges.j in
    let fai : SFits w32 c.ends-ai.result.0 = search rules in
    let faj : SFits w32 c.ends-ai.result.1 = search rules in
    let fbi : SFits w32 c.ends-ai.result.2 = search rules in
    let fbj : SFits w32 c.ends-ai.result.3 = search rules in
    let ai = to_z-of_z w32 c.ends-ai.result.0 fai ∙ c.ends-ai.ensures.ai ∙ ap lower_end i in
    let aj = to_z-of_z w32 c.ends-ai.result.1 faj ∙ c.ends-ai.ensures.aj ∙ ap lower_end j in
    let bi = to_z-of_z w32 c.ends-ai.result.2 fbi ∙ c.ends-ai.ensures.bi ∙ ap upper_end i in
    let bj = to_z-of_z w32 c.ends-ai.result.3 fbj ∙ c.ends-ai.ensures.bj ∙ ap upper_end j in
    let a = to_z-of_z w16 c.height-a.result (record { sfits = c.height-a.type_inv }) ∙ c.height-a.ensures.value ∙ (λ t. level_height terrain (c.args.level + 1) (ai t) (aj t)) in
    let b = to_z-of_z w16 c.height-b.result (record { sfits = c.height-b.type_inv }) ∙ c.height-b.ensures.value ∙ (λ t. level_height terrain (c.args.level + 1) (bi t) (bj t)) in
    record {
      value = to_z-of_z w32 c.blended.result (record { sfits = c.blended.type_inv }) ∙ c.blended.ensures.value
          ∙ (λ t. blended_height c.args.k false (c.at-active.ensures.value t) (i t) (j t) (to_z-of_z w16 c.args.own c.ranges.own t) (a t) (b t));
    }
