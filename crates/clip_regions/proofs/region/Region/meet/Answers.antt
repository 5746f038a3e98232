-- The corners are those of the definition, and the clauses follow from it.
use Rattle.std.proofs.Common.{◌^◌, ◌∙◌, ap, sym, arith, rules}
use mir.Syntax.{w32}
use mir.Val.{SFits}
use Rattle.clip_regions.specs.Regions.{spelled}
use Rattle.clip_regions.proofs.Cells.{both, meet_is, same_corners, max_is, min_is, meet_cells, meet_within, meet_in_left, meet_in_right}
use Rattle.clip_regions.proofs.region.Region.meet.Goals as goal

pub returns-clause-value : goal.returns-clause-value
unfolding both
returns-clause-value c =
    let x0 : SFits w32 c.args.self.x0 = search rules in
    let x1 : SFits w32 c.args.self.x1 = search rules in
    let y0 : SFits w32 c.args.self.y0 = search rules in
    let y1 : SFits w32 c.args.self.y1 = search rules in
    let ox0 : SFits w32 c.args.other.x0 = search rules in
    let ox1 : SFits w32 c.args.other.x1 = search rules in
    let oy0 : SFits w32 c.args.other.y0 = search rules in
    let oy1 : SFits w32 c.args.other.y1 = search rules in
    c.spelled.ensures.value ∙ ap spelled (same_corners _ (both c.args.self c.args.other) (max_is c.args.self.x0 c.args.other.x0 c.max.result x0 ox0 (record { sfits = c.max.type_inv }) c.max.ensures.value) (max_is c.args.self.y0 c.args.other.y0 c.max-2.result y0 oy0 (record { sfits = c.max-2.type_inv }) c.max-2.ensures.value) (min_is c.args.self.x1 c.args.other.x1 c.min.result x1 ox1 (record { sfits = c.min.type_inv }) c.min.ensures.value) (min_is c.args.self.y1 c.args.other.y1 c.min-2.result y1 oy1 (record { sfits = c.min-2.type_inv }) c.min-2.ensures.value)) ∙ sym (meet_is c.args.self c.args.other)

pub returns-clause-cells : goal.returns-clause-cells
returns-clause-cells c = meet_cells c.args.self c.args.other c.spelled.result (returns-clause-value c)

pub returns-clause-placed : goal.returns-clause-placed
returns-clause-placed c =
    meet_within (2 ^ 28) c.args.self c.args.other c.spelled.result (omega arith) (returns-clause-value c) c.requires.self_placed

pub returns-clause-in_self : goal.returns-clause-in_self
returns-clause-in_self c = meet_in_left c.args.self c.args.other c.spelled.result (returns-clause-value c)

pub returns-clause-in_other : goal.returns-clause-in_other
returns-clause-in_other c = meet_in_right c.args.self c.args.other c.spelled.result (returns-clause-value c)
