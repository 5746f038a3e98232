use Rattle.std.proofs.Common.{◌∙◌}
use Rattle.plan_plain_pieces.proofs.Cases.{first_is}
use Rattle.plan_plain_pieces.proofs.window_strips.first_of.Goals as goal

pub returns : goal.returns
returns c = c.copied.ensures ∙ c.first.ensures.value ∙ first_is c.args.regions.now
