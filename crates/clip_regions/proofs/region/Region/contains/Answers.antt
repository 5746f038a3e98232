-- Two tests, of the column and of the row.
use Rattle.std.proofs.Common.{true, ◌&&◌, rules}
use mir.Syntax.{w32}
use mir.Val.{SFits}
use lib.Signed.{le_z}
use Rattle.clip_regions.proofs.Cells.{spans_is, contains_is, second_test, first_test}
use Rattle.clip_regions.proofs.region.Region.contains.Goals as goal

pub returns-then-spans : goal.returns-then-spans
returns-then-spans c =
    let x0 : SFits w32 c.args.self.x0 = search rules in
    let x1 : SFits w32 c.args.self.x1 = search rules in
    let y0 : SFits w32 c.args.self.y0 = search rules in
    let y1 : SFits w32 c.args.self.y1 = search rules in
    contains_is c.args.self c.args.i c.args.j _ (second_test _ _ _ (spans_is c.args.self.x0 c.args.self.x1 c.args.i c.args.i true x0 x1 c.ranges.i c.ranges.i c.if-spans.ensures) (spans_is c.args.self.y0 c.args.self.y1 c.args.j c.args.j c.spans-then-spans.result y0 y1 c.ranges.j c.ranges.j c.spans-then-spans.ensures))

pub returns-else-spans : goal.returns-else-spans
returns-else-spans c =
    let x0 : SFits w32 c.args.self.x0 = search rules in
    let x1 : SFits w32 c.args.self.x1 = search rules in
    contains_is c.args.self c.args.i c.args.j _ (first_test _ (le_z c.args.self.y0 c.args.j && le_z c.args.j c.args.self.y1) _ (spans_is c.args.self.x0 c.args.self.x1 c.args.i c.args.i c.spans.result x0 x1 c.ranges.i c.ranges.i c.spans.ensures) c.if-spans.false)
