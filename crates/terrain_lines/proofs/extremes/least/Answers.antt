use Rattle.std.proofs.Common.{◌∙◌, rules}
use mir.Val.{SFits}
use Rattle.std.specs.Int.{w16}
use Rattle.std.proofs.lemmas.Int.{to_z-of_z}
use Rattle.terrain_lines.proofs.Folds.{least_is}
use Rattle.terrain_lines.proofs.extremes.least.Goals as goal

pub returns : goal.returns
returns c =
    let fits : SFits w16 c.least.result = search rules in
    record { value = to_z-of_z w16 c.least.result fits ∙ least_is c.least.result c.args.grid.now.table c.least.ensures }
