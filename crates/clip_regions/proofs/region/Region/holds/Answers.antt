-- Two tests, of the columns and of the rows, where the other region has a cell.
use Rattle.std.proofs.Common.{sym, ◌∙◌, true, ◌&&◌, rules}
use mir.Syntax.{w32}
use mir.Val.{SFits}
use lib.Signed.{le_z}
use Rattle.clip_regions.proofs.Cells.{spans_is, holds_is, holds_empty, holds_cells, second_test, first_test}
use Rattle.clip_regions.proofs.region.Region.holds.Goals as goal

pub returns-then-is_empty-clause-value : goal.returns-then-is_empty-clause-value
returns-then-is_empty-clause-value c =
    c.if-is_empty.true ∙ sym (holds_empty c.args.self c.args.other (sym c.if-is_empty.ensures.value))

pub returns-then-is_empty-clause-cells : goal.returns-then-is_empty-clause-cells
returns-then-is_empty-clause-cells c = holds_cells c.args.self c.args.other _ (returns-then-is_empty-clause-value c)

pub returns-then-spans-clause-value : goal.returns-then-spans-clause-value
returns-then-spans-clause-value c =
    let x0 : SFits w32 c.args.self.x0 = search rules in
    let x1 : SFits w32 c.args.self.x1 = search rules in
    let y0 : SFits w32 c.args.self.y0 = search rules in
    let y1 : SFits w32 c.args.self.y1 = search rules in
    let ox0 : SFits w32 c.args.other.x0 = search rules in
    let ox1 : SFits w32 c.args.other.x1 = search rules in
    let oy0 : SFits w32 c.args.other.y0 = search rules in
    let oy1 : SFits w32 c.args.other.y1 = search rules in
    holds_is c.args.self c.args.other _ (sym c.if-is_empty.ensures.value) (second_test _ _ _ (spans_is c.args.self.x0 c.args.self.x1 c.args.other.x0 c.args.other.x1 true x0 x1 ox0 ox1 c.if-spans.ensures) (spans_is c.args.self.y0 c.args.self.y1 c.args.other.y0 c.args.other.y1 c.spans-then-spans.result y0 y1 oy0 oy1 c.spans-then-spans.ensures))

pub returns-then-spans-clause-cells : goal.returns-then-spans-clause-cells
returns-then-spans-clause-cells c = holds_cells c.args.self c.args.other _ (returns-then-spans-clause-value c)

pub returns-else-spans-clause-value : goal.returns-else-spans-clause-value
returns-else-spans-clause-value c =
    let x0 : SFits w32 c.args.self.x0 = search rules in
    let x1 : SFits w32 c.args.self.x1 = search rules in
    let ox0 : SFits w32 c.args.other.x0 = search rules in
    let ox1 : SFits w32 c.args.other.x1 = search rules in
    holds_is c.args.self c.args.other _ (sym c.if-is_empty.ensures.value) (first_test _ (le_z c.args.self.y0 c.args.other.y0 && le_z c.args.other.y1 c.args.self.y1) _ (spans_is c.args.self.x0 c.args.self.x1 c.args.other.x0 c.args.other.x1 c.spans.result x0 x1 ox0 ox1 c.spans.ensures) c.if-spans.false)

pub returns-else-spans-clause-cells : goal.returns-else-spans-clause-cells
returns-else-spans-clause-cells c = holds_cells c.args.self c.args.other _ (returns-else-spans-clause-value c)
