-- The four tests, one after another.
use Rattle.std.proofs.Common.{w32, rules, sym, ◌∙◌}
use Rattle.std.proofs.lemmas.Bool.{true≢false}
use Rattle.std.proofs.lemmas.Int.{to_z-of_z}
use Rattle.mesh_plain.proofs.Nears.{placed_is, placed_test}
use Rattle.mesh_plain.proofs.frames.has_placed_corners.Goals as goal
use mir.Val.{to_z, of_z, SFits}

pub returns-then-not-is_placed : goal.returns-then-not-is_placed
returns-then-not-is_placed c =
    let x0 : SFits w32 c.args.region.now.x0 = search rules in
    ((λ never. absurd (true≢false (sym never))), (λ corners. sym c.if-not-is_placed.true ∙ placed_test c.args.level c.args.region.now.x0 (to_z w32 (of_z w32 c.args.region.now.x0)) c.is_placed.result c.requires (to_z-of_z w32 c.args.region.now.x0 x0) c.is_placed.ensures corners.west))

pub returns-then-not-is_placed-2 : goal.returns-then-not-is_placed-2
returns-then-not-is_placed-2 c =
    let y0 : SFits w32 c.args.region.now.y0 = search rules in
    ((λ never. absurd (true≢false (sym never))), (λ corners. sym c.if-not-is_placed-2.true ∙ placed_test c.args.level c.args.region.now.y0 (to_z w32 (of_z w32 c.args.region.now.y0)) c.is_placed-2.result c.requires (to_z-of_z w32 c.args.region.now.y0 y0) c.is_placed-2.ensures corners.north))

pub returns-then-not-is_placed-3 : goal.returns-then-not-is_placed-3
returns-then-not-is_placed-3 c =
    let x1 : SFits w32 c.args.region.now.x1 = search rules in
    ((λ never. absurd (true≢false (sym never))), (λ corners. sym c.if-not-is_placed-3.true ∙ placed_test c.args.level c.args.region.now.x1 (to_z w32 (of_z w32 c.args.region.now.x1)) c.is_placed-3.result c.requires (to_z-of_z w32 c.args.region.now.x1 x1) c.is_placed-3.ensures corners.east))

pub returns : goal.returns
returns c =
    let x0 : SFits w32 c.args.region.now.x0 = search rules in
    let y0 : SFits w32 c.args.region.now.y0 = search rules in
    let x1 : SFits w32 c.args.region.now.x1 = search rules in
    let y1 : SFits w32 c.args.region.now.y1 = search rules in (
      (λ last. record {
        west = placed_is c.args.level c.args.region.now.x0 (to_z w32 (of_z w32 c.args.region.now.x0)) c.is_placed.result c.requires (to_z-of_z w32 c.args.region.now.x0 x0) c.is_placed.ensures c.if-not-is_placed.false;
        north = placed_is c.args.level c.args.region.now.y0 (to_z w32 (of_z w32 c.args.region.now.y0)) c.is_placed-2.result c.requires (to_z-of_z w32 c.args.region.now.y0 y0) c.is_placed-2.ensures c.if-not-is_placed-2.false;
        east = placed_is c.args.level c.args.region.now.x1 (to_z w32 (of_z w32 c.args.region.now.x1)) c.is_placed-3.result c.requires (to_z-of_z w32 c.args.region.now.x1 x1) c.is_placed-3.ensures c.if-not-is_placed-3.false;
        south = placed_is c.args.level c.args.region.now.y1 (to_z w32 (of_z w32 c.args.region.now.y1)) c.is_placed-4.result c.requires (to_z-of_z w32 c.args.region.now.y1 y1) c.is_placed-4.ensures last;
      }),
      (λ corners. placed_test c.args.level c.args.region.now.y1 (to_z w32 (of_z w32 c.args.region.now.y1)) c.is_placed-4.result c.requires (to_z-of_z w32 c.args.region.now.y1 y1) c.is_placed-4.ensures corners.south),
    )
