use Rattle.std.proofs.Common.{◌≡◌, ℕ, ◌<◌, ◌≤◌, ℤ, ap, sym, ◌∙◌, arith}
use Rattle.std.specs.Prelude.{nat_lt}
use mathlib.Core.Path.{ap₂}
use Rattle.clip_regions.specs.FloorDivision.{floor_div, floor_rem}
use Rattle.plan_model.specs.Blocks.{tiles_per_side}
use Rattle.plan_laws.specs.Pieces.{blocks_between}
use Rattle.strip_planner.specs.Met.{ahead}
use Rattle.strip_planner.proofs.Rings.{has_place_at, has_place_beyond}
use Rattle.strip_planner.proofs.tiles.is_met.Goals as goal
use Rattle.clip_regions.proofs.Numbers.{read_back}

pub returns-then-t-side : goal.returns-then-t-side
returns-then-t-side c =
    let side : c.tiles_per_side-side.result ≡ tiles_per_side c.args.k = c.tiles_per_side-side.ensures.value in
    let some : 0 < tiles_per_side c.args.k = omega (arith, side) in
    let beyond : tiles_per_side c.args.k ≤ c.args.t = omega (arith, side) in
    sym (has_place_beyond (tiles_per_side c.args.k) (floor_div c.args.first 8) (blocks_between c.args.first c.args.last) c.args.t some beyond)

pub returns : goal.returns
returns c =
    let side : c.tiles_per_side-side.result ≡ tiles_per_side c.args.k = c.tiles_per_side-side.ensures.value in
    let some : 0 < tiles_per_side c.args.k = omega (arith, side) in
    let small : c.args.t < tiles_per_side c.args.k = omega (arith, side) in
    let block : c.eighth.result ≡ floor_div c.args.first 8 = c.eighth.ensures.value ∙ ap (λ (v : ℤ). floor_div v 8) (read_back c.args.first c.ranges.first) in
    let from : c.tile_place-from.result ≡ floor_rem (floor_div c.args.first 8) (tiles_per_side c.args.k) = c.tile_place-from.ensures.value ∙ ap (λ (z : ℤ). floor_rem z (tiles_per_side c.args.k)) (read_back c.eighth.result (record { sfits = c.eighth.type_inv }) ∙ block) in
    let far : c.from.result ≡ ahead (tiles_per_side c.args.k) (floor_rem (floor_div c.args.first 8) (tiles_per_side c.args.k)) c.args.t = c.from.ensures ∙ c.ahead.ensures.value ∙ ap₂ (λ (s f : ℕ). ahead s f c.args.t) side from in
    let count : c.block_count.result ≡ blocks_between c.args.first c.args.last = c.block_count.ensures.value ∙ ap₂ blocks_between (read_back c.args.first c.ranges.first) (read_back c.args.last c.ranges.last) in
    ap₂ nat_lt far count ∙ sym (has_place_at (tiles_per_side c.args.k) (floor_div c.args.first 8) (blocks_between c.args.first c.args.last) c.args.t some small)
