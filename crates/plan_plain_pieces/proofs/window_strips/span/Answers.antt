use Rattle.std.proofs.Common.{rules}
use mir.Syntax.{w32}
use mir.Val.{SFits}
use Rattle.plan_plain_pieces.specs.Spans.{span}
use Rattle.plan_plain_pieces.proofs.window_strips.span.Goals as goal
use Rattle.clip_regions.proofs.Cells.{max_is, min_is, same_corners}

pub returns : goal.returns
unfolding span
returns c =
    let ax0 : SFits w32 c.args.a.x0 = search rules in
    let ax1 : SFits w32 c.args.a.x1 = search rules in
    let ay0 : SFits w32 c.args.a.y0 = search rules in
    let ay1 : SFits w32 c.args.a.y1 = search rules in
    let bx0 : SFits w32 c.args.b.x0 = search rules in
    let bx1 : SFits w32 c.args.b.x1 = search rules in
    let by0 : SFits w32 c.args.b.y0 = search rules in
    let by1 : SFits w32 c.args.b.y1 = search rules in
    same_corners _ (span c.args.a c.args.b) (min_is c.args.a.x0 c.args.b.x0 c.min.result ax0 bx0 (record { sfits = c.min.type_inv }) c.min.ensures.value) (min_is c.args.a.y0 c.args.b.y0 c.min-2.result ay0 by0 (record { sfits = c.min-2.type_inv }) c.min-2.ensures.value) (max_is c.args.a.x1 c.args.b.x1 c.max.result ax1 bx1 (record { sfits = c.max.type_inv }) c.max.ensures.value) (max_is c.args.a.y1 c.args.b.y1 c.max-2.result ay1 by1 (record { sfits = c.max-2.type_inv }) c.max-2.ensures.value)
