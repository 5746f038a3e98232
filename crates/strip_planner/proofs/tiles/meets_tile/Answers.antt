use Rattle.std.proofs.Common.{◌≡◌, ℤ, ◌≤ℤ◌, sym, ◌∙◌, rules, arith}
use Rattle.std.proofs.lemmas.Int.{ints}
use mathlib.Core.Path.{ap₂}
use mir.Syntax.{w32}
use mir.Val.{SFits}
use Rattle.clip_regions.specs.FloorDivision.{floor_div}
use Rattle.plan_model.specs.Blocks.{tiles_per_side}
use Rattle.plan_laws.specs.Pieces.{blocks_between}
use Rattle.plan_laws.specs.Tiles.{meets_column, meets_row}
use Rattle.strip_planner.specs.Met.{has_place}
use Rattle.strip_planner.proofs.MetTiles.{none_met, column_is, row_is, met_by_both, met_by_none}
use Rattle.strip_planner.proofs.tiles.meets_tile.Goals as goal
use Rattle.clip_regions.proofs.Numbers.{read_back}
use Rattle.plan_sound.proofs.Parts.{ordered}

pub returns-then-is_empty : goal.returns-then-is_empty
returns-then-is_empty c =
    sym (none_met c.args.k c.args.region c.args.tile (sym c.is_empty.ensures.value ∙ c.if-is_empty.true))

pub is_met-requires-clause-order : goal.is_met-requires-clause-order
is_met-requires-clause-order c =
    let order : c.args.region.x0 ≤ℤ c.args.region.x1 = (ordered c.args.region (sym c.is_empty.ensures.value ∙ c.if-is_empty.false)).x in
    omega (arith, ints)

pub is_met-requires-then-is_met-clause-order : goal.is_met-requires-then-is_met-clause-order
is_met-requires-then-is_met-clause-order c =
    let order : c.args.region.y0 ≤ℤ c.args.region.y1 = (ordered c.args.region (sym c.is_empty.ensures.value ∙ c.if-is_empty.false)).y in
    omega (arith, ints)

pub returns-then-is_met : goal.returns-then-is_met
returns-then-is_met c =
    let x0 : SFits w32 c.args.region.x0 = search rules in
    let x1 : SFits w32 c.args.region.x1 = search rules in
    let y0 : SFits w32 c.args.region.y0 = search rules in
    let y1 : SFits w32 c.args.region.y1 = search rules in
    let column : c.is_met.result ≡ meets_column c.args.k c.args.region c.args.tile.tx = c.is_met.ensures ∙ ap₂ (λ (a b : ℤ). has_place (tiles_per_side c.args.k) (floor_div a 8) (blocks_between a b) c.args.tile.tx) (read_back c.args.region.x0 x0) (read_back c.args.region.x1 x1) ∙ column_is c.args.k c.args.region c.args.tile.tx in
    let row : c.is_met-then-is_met.result ≡ meets_row c.args.k c.args.region c.args.tile.ty = c.is_met-then-is_met.ensures ∙ ap₂ (λ (a b : ℤ). has_place (tiles_per_side c.args.k) (floor_div a 8) (blocks_between a b) c.args.tile.ty) (read_back c.args.region.y0 y0) (read_back c.args.region.y1 y1) ∙ row_is c.args.k c.args.region c.args.tile.ty in
    met_by_both c.is_met.result c.is_met-then-is_met.result _ _ _ column row (c.tiles_are_met_by_sides.ensures c.args.k c.args.region c.args.tile (sym c.is_empty.ensures.value ∙ c.if-is_empty.false)) c.if-is_met.true

pub returns-else-is_met : goal.returns-else-is_met
returns-else-is_met c =
    let x0 : SFits w32 c.args.region.x0 = search rules in
    let x1 : SFits w32 c.args.region.x1 = search rules in
    let column : c.is_met.result ≡ meets_column c.args.k c.args.region c.args.tile.tx = c.is_met.ensures ∙ ap₂ (λ (a b : ℤ). has_place (tiles_per_side c.args.k) (floor_div a 8) (blocks_between a b) c.args.tile.tx) (read_back c.args.region.x0 x0) (read_back c.args.region.x1 x1) ∙ column_is c.args.k c.args.region c.args.tile.tx in
    met_by_none c.is_met.result _ _ _ column (c.tiles_are_met_by_sides.ensures c.args.k c.args.region c.args.tile (sym c.is_empty.ensures.value ∙ c.if-is_empty.false)) c.if-is_met.false
