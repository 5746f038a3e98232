use Rattle.std.proofs.Common.{◌≡◌, ℕ, ◌+◌, ◌<◌, ◌≤◌, List, length, map, Vec, ℤ, ap, sym, ◌∙◌, subst, rules}
use Rattle.std.specs.Global.{Global}
use Rattle.clip_regions.specs.Regions.{area}
use Rattle.mesh_model.specs.Height.{active_at}
use Rattle.mesh_laws.specs.Conditions.{IsSmall}
use Rattle.mesh_laws.proofs.Sizes.{small_of}
use Rattle.decode_workers.specs.Copies.{copy_in, HaveRoom}
use Rattle.decode_workers.proofs.Copying.{one_more}
use Rattle.decode_workers.proofs.copies.room_of.Goals as goal

pub cell_count-requires : goal.cell_count-requires
unfolding active_at
cell_count-requires c =
    let low : c.loop-level.level < length c.args.actives.now = search rules in
    subst IsSmall (sym c.at.ensures.value) (small_of c.args.actives.now c.loop-level.level low c.at.ensures.active)

pub loop-level-preserved : goal.loop-level-preserved
unfolding active_at
loop-level-preserved c =
    let actives = c.args.actives.now in
    let level = c.loop-level.level in
    let cells : c.cell_count.result ≡ area (active_at actives level) = c.cell_count.ensures ∙ ap area c.at.ensures.value in
    let room = subst (λ (n : ℕ). n ≤ c.in_ok-heights.heights.cap) cells c.in_ok-heights.ensures.capacity in
    subst (λ (vs : List (Vec ℤ Global)). HaveRoom actives (level + 1) (map copy_in vs)) (sym c.in_ok-push.ensures.items) (one_more actives level c.loop-level.levels.items c.in_ok-heights.heights c.loop-level.invariant c.in_ok-heights.ensures.items room)
