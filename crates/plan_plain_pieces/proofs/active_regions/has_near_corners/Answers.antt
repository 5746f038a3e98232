-- The four tests, one after another.
use Rattle.std.proofs.Common.{w32, rules, sym, ◌∙◌}
use Rattle.std.proofs.lemmas.Bool.{true≢false}
use Rattle.std.proofs.lemmas.Int.{to_z-of_z}
use Rattle.plan_plain_pieces.proofs.Corners.{IsNear, near_is, near_test}
use Rattle.plan_plain_pieces.proofs.active_regions.has_near_corners.Goals as goal
use mir.Val.{to_z, of_z, SFits}

pub returns-then-not-is_near : goal.returns-then-not-is_near
returns-then-not-is_near c =
    let fits : SFits w32 c.args.region.now.x0 = search rules in
    record { value = ((λ never. absurd (true≢false (sym never))), (λ near. sym c.if-not-is_near.true ∙ near_test c.args.region.now.x0 (to_z w32 (of_z w32 c.args.region.now.x0)) c.is_near.result (to_z-of_z w32 c.args.region.now.x0 fits) c.is_near.ensures near.x0_low near.x0_high)) }

pub returns-then-not-is_near-2 : goal.returns-then-not-is_near-2
returns-then-not-is_near-2 c =
    let fits : SFits w32 c.args.region.now.y0 = search rules in
    record { value = ((λ never. absurd (true≢false (sym never))), (λ near. sym c.if-not-is_near-2.true ∙ near_test c.args.region.now.y0 (to_z w32 (of_z w32 c.args.region.now.y0)) c.is_near-2.result (to_z-of_z w32 c.args.region.now.y0 fits) c.is_near-2.ensures near.y0_low near.y0_high)) }

pub returns-then-not-is_near-3 : goal.returns-then-not-is_near-3
returns-then-not-is_near-3 c =
    let fits : SFits w32 c.args.region.now.x1 = search rules in
    record { value = ((λ never. absurd (true≢false (sym never))), (λ near. sym c.if-not-is_near-3.true ∙ near_test c.args.region.now.x1 (to_z w32 (of_z w32 c.args.region.now.x1)) c.is_near-3.result (to_z-of_z w32 c.args.region.now.x1 fits) c.is_near-3.ensures near.x1_low near.x1_high)) }

pub returns : goal.returns
returns c =
    let x0 : SFits w32 c.args.region.now.x0 = search rules in
    let y0 : SFits w32 c.args.region.now.y0 = search rules in
    let x1 : SFits w32 c.args.region.now.x1 = search rules in
    let y1 : SFits w32 c.args.region.now.y1 = search rules in
    let west : IsNear c.args.region.now.x0 = near_is c.args.region.now.x0 (to_z w32 (of_z w32 c.args.region.now.x0)) c.is_near.result (to_z-of_z w32 c.args.region.now.x0 x0) c.is_near.ensures c.if-not-is_near.false in
    let north : IsNear c.args.region.now.y0 = near_is c.args.region.now.y0 (to_z w32 (of_z w32 c.args.region.now.y0)) c.is_near-2.result (to_z-of_z w32 c.args.region.now.y0 y0) c.is_near-2.ensures c.if-not-is_near-2.false in
    let east : IsNear c.args.region.now.x1 = near_is c.args.region.now.x1 (to_z w32 (of_z w32 c.args.region.now.x1)) c.is_near-3.result (to_z-of_z w32 c.args.region.now.x1 x1) c.is_near-3.ensures c.if-not-is_near-3.false in
    record {
      value = (
        (λ last.
            let south : IsNear c.args.region.now.y1 = near_is c.args.region.now.y1 (to_z w32 (of_z w32 c.args.region.now.y1)) c.is_near-4.result (to_z-of_z w32 c.args.region.now.y1 y1) c.is_near-4.ensures last in
            record { x0_low = west.low; x0_high = west.high; y0_low = north.low; y0_high = north.high; x1_low = east.low; x1_high = east.high; y1_low = south.low; y1_high = south.high }),
        (λ near. near_test c.args.region.now.y1 (to_z w32 (of_z w32 c.args.region.now.y1)) c.is_near-4.result (to_z-of_z w32 c.args.region.now.y1 y1) c.is_near-4.ensures near.y1_low near.y1_high),
      );
    }
