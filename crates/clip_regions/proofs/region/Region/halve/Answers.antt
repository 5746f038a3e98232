-- The corners are those of the definition, and the clauses follow from it.
use Rattle.std.proofs.Common.{◌^◌, ◌∙◌, ap, sym, arith, rules}
use Rattle.clip_regions.specs.Regions.{spelled}
use mir.Syntax.{w32}
use mir.Val.{SFits}
use Rattle.clip_regions.proofs.Cells.{same_corners}
use Rattle.clip_regions.proofs.Sizes.{halved, half_is, halve_is, halve_cells, halve_within, double_halve}
use Rattle.clip_regions.proofs.region.Region.halve.Goals as goal

pub returns-clause-value : goal.returns-clause-value
unfolding halved
returns-clause-value c =
    let x0 : SFits w32 c.args.self.x0 = search rules in
    let x1 : SFits w32 c.args.self.x1 = search rules in
    let y0 : SFits w32 c.args.self.y0 = search rules in
    let y1 : SFits w32 c.args.self.y1 = search rules in
    c.spelled.ensures.value ∙ ap spelled (same_corners _ (halved c.args.self) (half_is c.args.self.x0 c.floor_div.result x0 (record { sfits = c.floor_div.type_inv }) c.floor_div.ensures.value) (half_is c.args.self.y0 c.floor_div-2.result y0 (record { sfits = c.floor_div-2.type_inv }) c.floor_div-2.ensures.value) (half_is c.args.self.x1 c.floor_div-3.result x1 (record { sfits = c.floor_div-3.type_inv }) c.floor_div-3.ensures.value) (half_is c.args.self.y1 c.floor_div-4.result y1 (record { sfits = c.floor_div-4.type_inv }) c.floor_div-4.ensures.value)) ∙ sym (halve_is c.args.self)

pub returns-clause-cells : goal.returns-clause-cells
returns-clause-cells c = halve_cells c.args.self c.spelled.result c.requires.even (returns-clause-value c)

pub returns-clause-placed : goal.returns-clause-placed
returns-clause-placed c =
    halve_within (2 ^ 28) c.args.self c.spelled.result (omega arith) c.requires.even (returns-clause-value c) c.requires.placed

pub returns-clause-doubled : goal.returns-clause-doubled
returns-clause-doubled c = double_halve c.args.self c.spelled.result c.requires.even (returns-clause-value c)
