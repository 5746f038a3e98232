use Rattle.std.proofs.Common.{◌∙◌, rules}
use mir.Val.{SFits}
use Rattle.std.specs.Int.{w16}
use Rattle.std.proofs.lemmas.Int.{to_z-of_z}
use Rattle.terrain_lines.proofs.Folds.{most_is}
use Rattle.terrain_lines.proofs.extremes.most.Goals as goal

pub returns : goal.returns
returns c =
    let fits : SFits w16 c.most.result = search rules in
    record { value = to_z-of_z w16 c.most.result fits ∙ most_is c.most.result c.args.grid.now.table c.most.ensures }
